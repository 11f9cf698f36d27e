-- Each way on and out of the loop is a law of the adding. Assumes nothing.
use Rattle.std.proofs.Common.{arith}
use Rattle.std.proofs.lemmas.Result.{err_from_is_err_and}
use Rattle.blackboard.proofs.Adding.{adding_none, adding_room, adding_refused, adding_on, adding_small, adding_end}
use Rattle.blackboard.proofs.Board.add_up.Goals as goal

pub loop-line-init : goal.loop-line-init
loop-line-init c = search adding_none

pub add_line-requires : goal.add_line-requires
add_line-requires c = adding_room c.loop-line.invariant (omega arith) c.mark_where-mark.ensures

pub returns-in_err-kinds : goal.returns-in_err-kinds
returns-in_err-kinds c =
    let p = err_from_is_err_and c.from_residual.result c.from_residual.ensures.1 in
    rw (p.1, p.2) (adding_refused c.loop-line.invariant (omega arith) c.mark_where-mark.ensures (omega arith) _ c.in_err-kinds.ensures)

pub loop-line-preserved : goal.loop-line-preserved
loop-line-preserved c = adding_on c.loop-line.invariant (omega arith) c.mark_where-mark.ensures (omega arith) c.in_ok-kinds.ensures c.walk_on-at.ensures

pub projection_of-requires : goal.projection_of-requires
projection_of-requires c = adding_small c.loop-line.invariant

pub returns : goal.returns
returns c = adding_end c.loop-line.invariant (omega arith) c.projection_of.ensures
