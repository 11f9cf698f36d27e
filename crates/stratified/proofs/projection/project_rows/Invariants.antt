-- The rows of the strata before the one at hand are written. Assumes nothing.
use Rattle.stratified.proofs.Walking.{Walking}
use Rattle.stratified.proofs.projection.project_rows.Given as goal

abbrev pub invariant-loop-h : goal.invariant-loop-h
invariant-loop-h l = Walking l.ledger l.counts l.plan l.starts l.errors l.rows l.at l.h
