-- `blackboard::Board::mark_lines` meets its contract: the marks of the split, and then those of the walk. Assumes nothing.
use Rattle.blackboard.proofs.Answer.{lines_marked}
use Rattle.blackboard.proofs.Board.mark_lines.Goals as goal

pub returns : goal.returns
returns c = search lines_marked
