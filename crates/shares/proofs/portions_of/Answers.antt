-- A portion more is written, and taken from what is left. Assumes nothing.
use native.Mathlib.Omega.{arith}
use Rattle.shares.proofs.Portioning.{portioning_none, portioning_next, portioning_end}
use Rattle.shares.proofs.portions_of.Goals as goal

pub loop-h-init : goal.loop-h-init
loop-h-init c = search portioning_none

pub loop-h-preserved : goal.loop-h-preserved
loop-h-preserved c = portioning_next c.loop-h.invariant (omega arith) c.portion_of-portion.ensures.0 c.portion_of-portion.ensures.1

pub returns : goal.returns
returns c = search portioning_end
