-- `blackboard::Board::mark_points` meets its contract. The invariant: walking on from the point over the marks as they are leaves what the whole walk leaves. The
-- measure is what is left of the row. Assumes nothing.
use Prim.Native.Nat.{◌-◌}
use Rattle.blackboard.proofs.Walking.{Walking}
use Rattle.blackboard.proofs.Board.mark_points.Given as goal

abbrev pub invariant-loop-point : goal.invariant-loop-point
invariant-loop-point l = Walking l.self.interval l.initial.point l.self.ledger.now l.initial.marks l.marks l.point

abbrev pub decreases-loop-point : goal.decreases-loop-point
decreases-loop-point l = l.end - l.point
