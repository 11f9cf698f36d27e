-- `upkeep::change` meets its contract: where the value is taken, the line and the figures are written. Assumes nothing.
use native.Mathlib.Omega.{arith}
use lib.ListN.{length-set}
use Rattle.totals.proofs.Shapes.{judged_shape}
use Rattle.upkeep.proofs.Steps.{change_made}
use Rattle.upkeep.proofs.change.Goals as goal

pub bounds-summary-many-2 : goal.bounds-summary-many-2
bounds-summary-many-2 c = simp length-set (omega (arith, (judged_shape c.in_ok-many.ensures).long))

pub returns : goal.returns
returns c = change_made _ _ _ _ _ _ c.in_ok-many.ensures (omega arith) _ c.in_ok-new.ensures
