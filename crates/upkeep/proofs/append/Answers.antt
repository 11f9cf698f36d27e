-- `upkeep::append` meets its contract: where the value is taken, room is there for the line, and for the figures. Assumes nothing.
use native.Mathlib.Omega.{arith}
use lib.ListN.{length-set}
use Rattle.totals.proofs.Shapes.{judged_shape}
use Rattle.upkeep.proofs.Steps.{room_inside, append_made}
use Rattle.upkeep.proofs.append.Goals as goal

pub appended-requires : goal.appended-requires
appended-requires c = omega (arith, (judged_shape c.in_ok-last.ensures).few)

pub bounds-room-count : goal.bounds-room-count
bounds-room-count c = room_inside _ _ _ _ c.in_ok-last.ensures _ _ c.in_ok-new.ensures

pub bounds-summary-last-2 : goal.bounds-summary-last-2
bounds-summary-last-2 c = simp length-set (omega (arith, (judged_shape c.in_ok-last.ensures).long))

pub returns : goal.returns
returns c = append_made _ _ _ _ c.in_ok-last.ensures _ _ c.in_ok-new.ensures
