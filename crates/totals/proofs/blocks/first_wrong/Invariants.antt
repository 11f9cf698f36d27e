-- From here on what is found is what is found in the whole. Assumes nothing.
use Rattle.totals.proofs.Loops.{Comparing}
use Rattle.totals.proofs.blocks.first_wrong.Given as goal

abbrev pub invariant-loop-block : goal.invariant-loop-block
invariant-loop-block l = Comparing l.lines l.many l.total l.summary l.block
