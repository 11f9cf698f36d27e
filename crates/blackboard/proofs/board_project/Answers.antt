-- The ledger of accepted figures is within the limits, with the errors beside it. Assumes nothing.
use Rattle.blackboard.proofs.Answer.{on_board, to_add}
use Rattle.blackboard.proofs.board_project.Goals as goal

pub invariant_of-board : goal.invariant_of-board
invariant_of-board c = record { on = on_board _ _ _ _ c.in_ok-figures.ensures.answer }

pub add_up-requires : goal.add_up-requires
add_up-requires c = to_add _ _ _ _ c.in_ok-figures.ensures.answer
