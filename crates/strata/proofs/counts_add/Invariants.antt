-- The counts before the one at hand are taken off. Assumes nothing.
use Rattle.strata.proofs.Counting.{Taking}
use Rattle.strata.proofs.counts_add.Given as goal

abbrev pub invariant-loop-count : goal.invariant-loop-count
invariant-loop-count l = Taking l.counts l.lines l.left l.count-index
