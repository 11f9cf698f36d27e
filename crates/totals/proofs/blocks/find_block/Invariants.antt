-- From here on what is found is what is found from the first block on. Assumes nothing.
use Rattle.totals.proofs.Loops.{Going}
use Rattle.totals.proofs.blocks.find_block.Given as goal

abbrev pub invariant-loop-block : goal.invariant-loop-block
invariant-loop-block l = Going l.lines l.figures l.cent l.block l.rest
