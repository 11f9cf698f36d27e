-- `blackboard::Board::row_end` meets its contract. The invariant: what is counted and what the lines to come count for is the row. Assumes nothing.
use Rattle.blackboard.proofs.Counting.{Counting}
use Rattle.blackboard.proofs.Board.row_end.Given as goal

abbrev pub invariant-loop-value : goal.invariant-loop-value
invariant-loop-value l = Counting l.self.interval l.self.ledger.now l.value-index l.counted
