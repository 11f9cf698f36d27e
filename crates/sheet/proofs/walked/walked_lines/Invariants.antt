-- `sheet::walked::walked_lines` meets its contract. The invariant: what is left to write is the text of the lines from `item` on, and the walk stands beside
-- them. Assumes nothing.
use Rattle.sheet.proofs.ByMarks.{Walked}
use Rattle.sheet.proofs.walked.walked_lines.Given as goal

abbrev pub invariant-loop-item : goal.invariant-loop-item
invariant-loop-item l = Walked l.board.interval l.fn.start.0 l.board.ledger.now l.errors l.initial.page l.initial.at.at l.page l.at.at l.walker l.item
