-- The strata before the one at hand are marked. Assumes nothing.
use Rattle.stratified.proofs.Marking.{Marking}
use Rattle.stratified.proofs.marks.mark_strata.Given as goal

abbrev pub invariant-loop-h : goal.invariant-loop-h
invariant-loop-h l = Marking l.ledger l.counts l.rows l.starts l.marks l.drawn l.at l.h
