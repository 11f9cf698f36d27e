-- The largest of the remainders so far, beside those to come, gives the largest of all. Assumes nothing.
use Rattle.shares.proofs.Loops.{Looking}
use Rattle.shares.proofs.largest_at.Given as goal

abbrev pub invariant-loop-h : goal.invariant-loop-h
invariant-loop-h l = Looking l.fn.remainders l.stratum l.largest l.h
