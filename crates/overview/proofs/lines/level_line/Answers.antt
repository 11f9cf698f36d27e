-- `overview::lines::level_line` meets its contract: its percent and its counts. Assumes nothing.
use borrow.Author.Rules.{rules}
use Rattle.overview.proofs.Short.{level_written}
use Rattle.overview.proofs.lines.level_line.Goals as goal

pub returns : goal.returns
returns c = search (rules, level_written)
