-- `blackboard::sums::board_amount` meets its contract: the product rounded up, whichever factor comes first. Assumes nothing.
use Rattle.blackboard.proofs.OneLine.{is_amount}
use Rattle.blackboard.proofs.sums.board_amount.Goals as goal

pub returns : goal.returns
returns c = let at = c.before in is_amount at.args.interval at.args.value at.args.error _ at.requires.0 at.requires.2 c.scaled_up.ensures
