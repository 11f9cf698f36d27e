-- The portions so far are written, and what is left is what the others take and what is left over. Assumes nothing.
use Rattle.shares.proofs.Portioning.{Portioning}
use Rattle.shares.proofs.portions_of.Given as goal

abbrev pub invariant-loop-h : goal.invariant-loop-h
invariant-loop-h l = Portioning l.fn.books l.total l.n l.rest l.draws l.remainders l.leftover l.h
