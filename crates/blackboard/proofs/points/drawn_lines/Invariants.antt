-- `blackboard::points::drawn_lines` meets its contract. The invariant: those counted and those to come are all. Assumes nothing.
use Rattle.blackboard.proofs.Drawn.{DrawnSoFar}
use Rattle.blackboard.proofs.points.drawn_lines.Given as goal

abbrev pub invariant-loop-mark : goal.invariant-loop-mark
invariant-loop-mark l = DrawnSoFar l.marks l.drawn l.mark-index
