-- The lines of the strata before the one at hand are written. Assumes nothing.
use Rattle.handout.proofs.Loops.{Drawing}
use Rattle.handout.proofs.lines.drawn_lines.Given as goal

abbrev pub invariant-loop-h : goal.invariant-loop-h
invariant-loop-h l = Drawing l.ledger l.counts l.rows l.starts l.errors l.initial.page l.initial.next.at l.page l.next.at l.at l.h
