-- `totals::check` meets its contract: the lines in use, then the figures. Assumes nothing.
use borrow.Author.Rules.{rules}
use Rattle.totals.proofs.Shapes.{lines_long}
use Rattle.totals.proofs.Operations.{fillable, check_done}
use Rattle.totals.proofs.check.Goals as goal

pub slice_bounds-lines-end : goal.slice_bounds-lines-end
slice_bounds-lines-end c = lines_long _ _ _ _ _ c.in_ok-many.ensures

pub first_wrong-requires : goal.first_wrong-requires
first_wrong-requires c = fillable _ _ _ _ c.in_ok-many.ensures _ c.in_ok-total.ensures (search rules)

pub returns : goal.returns
returns c = check_done _ _ _ _ c.in_ok-many.ensures _ c.in_ok-total.ensures c.first_wrong.ensures
