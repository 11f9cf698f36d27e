-- From here on what is found is what is found from the block's first line on. Assumes nothing.
use Rattle.totals.proofs.Loops.{Looking}
use Rattle.totals.proofs.blocks.find_line.Given as goal

abbrev pub invariant-loop-line : goal.invariant-loop-line
invariant-loop-line l = Looking l.value-items l.block l.from l.cent l.line l.rest
