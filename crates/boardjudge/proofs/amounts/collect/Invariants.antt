-- `boardjudge::amounts::collect` meets its contract. The invariant: what is kept follows from the amounts so far and the lines to come, and the walk stands
-- beside them. Assumes nothing.
use Rattle.boardjudge.proofs.Collecting.{Collecting}
use Rattle.boardjudge.proofs.amounts.collect.Given as goal

abbrev pub invariant-loop-item : goal.invariant-loop-item
invariant-loop-item l = Collecting l.board.interval l.fn.start.0 l.board.ledger.now l.errors l.initial.amounts l.at l.m l.item l.amounts
