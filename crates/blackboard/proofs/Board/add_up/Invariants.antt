-- `blackboard::Board::add_up` meets its contract. The invariant: the whole follows from the sums so far and the lines to come, and the walk stands beside
-- them. Assumes nothing.
use Rattle.blackboard.proofs.Adding.{Adding}
use Rattle.blackboard.proofs.Board.add_up.Given as goal

abbrev pub invariant-loop-line : goal.invariant-loop-line
invariant-loop-line l = Adding l.self.interval l.fn.start.0 l.self.ledger.now l.errors l.kinds l.at l.line
