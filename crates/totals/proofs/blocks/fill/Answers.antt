-- `totals::blocks::fill` meets its contract: one figure more, then the grand total. Assumes nothing.
use native.Mathlib.Omega.{arith}
use Rattle.totals.proofs.Loops.{building_more, building_last}
use Rattle.totals.proofs.blocks.fill.Goals as goal

pub loop-block-preserved : goal.loop-block-preserved
loop-block-preserved c = building_more c.loop-block.invariant (omega (arith, c.loop-block.invariant.long)) c.add_lines.ensures

pub returns : goal.returns
returns c = building_last c.loop-block.invariant _ c.args.total (omega (arith, c.loop-block.invariant.long)) c.requires.fits
