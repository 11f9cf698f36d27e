-- The stratum that the branch chose. Assumes nothing.
use native.Mathlib.Omega.{arith}
use Rattle.shares.proofs.Loops.{looking_none, looking_takes, looking_keeps}
use Rattle.shares.proofs.largest_at.Goals as goal
use Rattle.shares.proofs.largest_at.Goals.{then-remainder-largest, else-remainder-largest}

pub loop-h-init : goal.loop-h-init
loop-h-init c = search looking_none

pub loop-h-preserved : goal.loop-h-preserved
loop-h-preserved c = elim c.if-remainder-largest.branch [ then-remainder-largest w ↦ rw (w.stratum-is, w.largest-is) (looking_takes c.loop-h.invariant (omega arith) (omega arith)) | else-remainder-largest w ↦ rw (w.stratum-is, w.largest-is) (looking_keeps c.loop-h.invariant (omega arith) (omega arith)) ]
