-- The own bits before a line are written. Assumes nothing.
use Rattle.teams.proofs.Marking.{OwnFilling}
use Rattle.teams.proofs.mark_full.Given as goal

abbrev pub invariant-loop-line : goal.invariant-loop-line
invariant-loop-line l = OwnFilling l.bits l.interval l.ledger l.initial.marks l.marks l.line
