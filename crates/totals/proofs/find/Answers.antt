-- `totals::find` lends the lines in use and the figures of the blocks. Assumes nothing.
use native.Mathlib.Omega.{arith}
use borrow.Author.Rules.{rules}
use lib.ListN.{length-take}
use Rattle.totals.proofs.Shapes.{lines_long, figures_few}
use Rattle.totals.proofs.find.Goals as goal

pub slice_bounds-find_block-end : goal.slice_bounds-find_block-end
slice_bounds-find_block-end c = lines_long _ _ _ _ _ c.in_ok-many.ensures

pub find_block-requires : goal.find_block-requires
find_block-requires c = figures_few _ _ _ _ _ c.in_ok-many.ensures _ (search rules) (omega (arith, length-take c.in_ok-many.many c.args.summary.now))
