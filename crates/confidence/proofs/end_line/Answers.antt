-- `confidence::end_line` meets its contract: a space, the percent, the end of the line. Assumes nothing.
use borrow.Author.Rules.{rules}
use Rattle.confidence.proofs.Writing.{end_laid}
use Rattle.confidence.proofs.end_line.Goals as goal

pub returns : goal.returns
returns c = search (rules, end_laid)
