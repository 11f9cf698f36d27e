-- Each start before the one at hand fits. Assumes nothing.
use Rattle.strata.proofs.Starting.{Fitting}
use Rattle.strata.proofs.starts.starts_fit.Given as goal

abbrev pub invariant-loop-h : goal.invariant-loop-h
invariant-loop-h l = Fitting l.rows l.starts l.h
