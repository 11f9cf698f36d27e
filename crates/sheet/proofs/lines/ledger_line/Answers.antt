-- `sheet::lines::ledger_line` meets its contract: the size and the sign are those of the error. Assumes nothing.
use borrow.Author.Rules.{rules}
use Rattle.sheet.proofs.Items.{size_within, line_written}
use Rattle.sheet.proofs.lines.ledger_line.Goals as goal

pub line_of-line-requires : goal.line_of-line-requires
line_of-line-requires c = search (rules, size_within)

pub returns : goal.returns
returns c = search line_written
