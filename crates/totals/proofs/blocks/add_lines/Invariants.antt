-- The total and what is left of the block are its total. Assumes nothing.
use Rattle.totals.proofs.Loops.{Adding}
use Rattle.totals.proofs.blocks.add_lines.Given as goal

abbrev pub invariant-loop-value : goal.invariant-loop-value
invariant-loop-value l = Adding l.value-items l.total l.value-index
