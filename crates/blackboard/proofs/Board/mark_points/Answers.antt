-- The loop over the points stays on the row; a point's counting stops at a line. Assumes nothing.
use Rattle.std.proofs.Common.{arith}
use Rattle.blackboard.proofs.Walking.{walking_start, walking_inside, walking_most, walking_some, walking_on, walking_same, walking_end}
use Rattle.blackboard.proofs.Board.mark_points.Goals as goal

pub loop-point-init : goal.loop-point-init
loop-point-init c = walking_start c.args.self.on c.requires

pub bounds-marks-count_off : goal.bounds-marks-count_off
bounds-marks-count_off c = walking_inside c.loop-point.invariant c.row_end-end.ensures c.loop-point-test.true c.count_off.ensures

pub overflow_add-point : goal.overflow_add-point
overflow_add-point c = omega (arith, c.loop-point-test.true, c.row_end-end.ensures, walking_most c.loop-point.invariant, c.loop-point.invariant.board.narrow)

pub loop-point-smaller : goal.loop-point-smaller
loop-point-smaller c = omega (arith, c.loop-point-test.true, walking_some c.loop-point.invariant c.row_end-end.ensures c.loop-point-test.true)

pub loop-point-preserved : goal.loop-point-preserved
loop-point-preserved c = walking_on c.loop-point.invariant c.row_end-end.ensures c.loop-point-test.true c.count_off.ensures

pub shape_of-marks : goal.shape_of-marks
shape_of-marks c = search walking_same

pub returns : goal.returns
returns c = search walking_end
