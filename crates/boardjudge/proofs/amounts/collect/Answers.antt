-- Each way on and out of the loop is a law of the collecting. Assumes nothing.
use Rattle.std.proofs.Common.{arith}
use Rattle.boardjudge.proofs.Collecting.{collecting_none, collecting_few, collecting_fits, collecting_more, collecting_end}
use Rattle.boardjudge.proofs.amounts.collect.Goals as goal

pub loop-item-init : goal.loop-item-init
loop-item-init c = search collecting_none

pub marked_line-requires : goal.marked_line-requires
marked_line-requires c = collecting_fits c.loop-item.invariant (omega arith) c.mark_where-mark.ensures (omega arith) c.overstated_of-error.ensures

pub keep-m-requires : goal.keep-m-requires
keep-m-requires c = (c.loop-item.invariant.fall, collecting_few c.loop-item.invariant (omega arith) c.mark_where-mark.ensures)

pub loop-item-preserved : goal.loop-item-preserved
loop-item-preserved c =
    collecting_more c.loop-item.invariant (omega arith) c.mark_where-mark.ensures (omega arith) c.overstated_of-error.ensures c.marked_line.ensures c.keep-m.ensures.0 c.keep-m.ensures.1 c.walk_on-at.ensures

pub returns : goal.returns
returns c = collecting_end c.loop-item.invariant (omega arith)
