-- The own bits before a line are written and counted. Assumes nothing.
use Rattle.teams.proofs.Marking.{OwnMarking}
use Rattle.teams.proofs.mark_drawn.Given as goal

abbrev pub invariant-loop-line : goal.invariant-loop-line
invariant-loop-line l = OwnMarking l.bits l.interval l.initial.next.0 l.ledger l.initial.marks l.marks l.line l.next.0 l.drawn
