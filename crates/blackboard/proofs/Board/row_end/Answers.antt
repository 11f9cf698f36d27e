-- What is counted is no more than the ledger's total. Assumes nothing.
use Rattle.std.proofs.Common.{arith}
use Rattle.blackboard.proofs.Counting.{counting_on, counting_room, counting_end}
use Rattle.blackboard.proofs.Board.row_end.Goals as goal

pub overflow_add-counted : goal.overflow_add-counted
overflow_add-counted c = omega (arith, counting_room c.loop-value.invariant (omega arith) c.counts_for-counted.ensures, c.args.self.on.summed)

pub loop-value-preserved : goal.loop-value-preserved
loop-value-preserved c = counting_on c.loop-value.invariant (omega arith) c.counts_for-counted.ensures

pub returns : goal.returns
returns c = counting_end c.loop-value.invariant (omega arith)
