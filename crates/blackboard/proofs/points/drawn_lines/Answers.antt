-- A mark more, by whether it is 1. Assumes nothing.
use Rattle.std.proofs.Common.{arith}
use Rattle.blackboard.proofs.Drawn.{drawn_one, drawn_other, drawn_end}
use Rattle.blackboard.proofs.points.drawn_lines.Goals as goal
use Rattle.blackboard.proofs.points.drawn_lines.Goals.{else-mark-eq1, then-mark-eq1}

pub loop-mark-preserved : goal.loop-mark-preserved
loop-mark-preserved c = let at = c.loop-mark.invariant in
    elim c.if-mark-eq1.branch [ then-mark-eq1 w ↦ drawn_one at (omega arith) w.if-mark-eq1.true {drawn' = c.if-mark-eq1.drawn} w.drawn-is | else-mark-eq1 w ↦ drawn_other at (omega arith) w.if-mark-eq1.false {drawn' = c.if-mark-eq1.drawn} w.drawn-is ]

pub returns : goal.returns
returns c = drawn_end c.loop-mark.invariant (omega arith)
