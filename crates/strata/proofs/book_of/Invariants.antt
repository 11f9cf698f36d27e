-- What is added and what is to come make the whole. Assumes nothing.
use Rattle.strata.proofs.Counting.{Summing}
use Rattle.strata.proofs.book_of.Given as goal

abbrev pub invariant-loop-value : goal.invariant-loop-value
invariant-loop-value l = Summing l.part l.total l.value-index
