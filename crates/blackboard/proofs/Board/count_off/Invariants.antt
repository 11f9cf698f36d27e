-- `blackboard::Board::count_off` meets its contract. The invariant: counting on from here stops where counting off from the first line does. Assumes nothing.
use Rattle.blackboard.proofs.Counting.{CountingTo}
use Rattle.blackboard.proofs.Board.count_off.Given as goal

abbrev pub invariant-loop-line : goal.invariant-loop-line
invariant-loop-line l = CountingTo l.self.interval l.self.ledger.now l.point l.line l.counted
