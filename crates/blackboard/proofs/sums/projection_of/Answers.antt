-- The sums of a kind, added, are an amount with a sign. Assumes nothing.
use Rattle.blackboard.proofs.OneLine.{sums_fit}
use Rattle.blackboard.proofs.sums.projection_of.Goals as goal

pub overflow_add-over : goal.overflow_add-over
overflow_add-over c = search sums_fit

pub overflow_add-under : goal.overflow_add-under
overflow_add-under c = search sums_fit
