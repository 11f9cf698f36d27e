-- The figures before the block are written. Assumes nothing.
use Rattle.totals.proofs.Loops.{Building}
use Rattle.totals.proofs.blocks.fill.Given as goal

abbrev pub invariant-loop-block : goal.invariant-loop-block
invariant-loop-block l = Building l.lines l.many l.figure-items l.block
