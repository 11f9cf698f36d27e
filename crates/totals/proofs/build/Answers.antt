-- `totals::build` meets its contract: the lines in use, then the summary that is written. Assumes nothing.
use borrow.Author.Rules.{rules}
use Rattle.totals.proofs.Shapes.{lines_long}
use Rattle.totals.proofs.Operations.{fillable, build_built}
use Rattle.totals.proofs.build.Goals as goal

pub slice_bounds-lines-end : goal.slice_bounds-lines-end
slice_bounds-lines-end c = lines_long _ _ _ _ _ c.in_ok-many.ensures

pub fill-requires : goal.fill-requires
fill-requires c = fillable _ _ _ _ c.in_ok-many.ensures _ c.in_ok-total.ensures (search rules)

pub returns : goal.returns
returns c = build_built _ _ _ _ c.in_ok-many.ensures _ c.in_ok-total.ensures c.fill.ensures
