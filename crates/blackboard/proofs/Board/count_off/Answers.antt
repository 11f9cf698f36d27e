-- What is counted is no more than the ledger's total. Assumes nothing.
use Rattle.std.proofs.Common.{arith}
use Rattle.blackboard.proofs.Counting.{counting_room, to_further}
use Rattle.blackboard.proofs.Board.count_off.Goals as goal

pub overflow_add-counted : goal.overflow_add-counted
overflow_add-counted c = omega (arith, counting_room c.loop-line.invariant.at (omega arith) c.counts_for-counted.ensures, c.args.self.on.summed)

pub loop-line-preserved : goal.loop-line-preserved
loop-line-preserved c = to_further c.loop-line.invariant (omega arith) c.counts_for-counted.ensures (omega arith)
