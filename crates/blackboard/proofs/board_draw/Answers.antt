-- The ledger of accepted figures is within the limits, and the marks have its length. Assumes nothing.
use Rattle.blackboard.proofs.Answer.{on_board, beside_same}
use Rattle.blackboard.proofs.board_draw.Goals as goal

pub invariant_of-board : goal.invariant_of-board
invariant_of-board c = record { on = on_board _ _ _ _ c.in_ok-figures.ensures.answer }

pub mark_lines-requires : goal.mark_lines-requires
mark_lines-requires c = beside_same _ _ _ _ c.in_ok-figures.ensures.answer
