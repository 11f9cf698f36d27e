-- The strata before the one at hand have their starts. Assumes nothing.
use Rattle.starts.proofs.Choosing.{Choosing}
use Rattle.starts.proofs.starts_of.Given as goal

abbrev pub invariant-loop-h : goal.invariant-loop-h
invariant-loop-h l = Choosing l.rows l.words l.starts l.used l.read l.h
