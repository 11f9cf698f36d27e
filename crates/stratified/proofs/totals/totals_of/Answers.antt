-- The next row is added. Assumes nothing.
use Rattle.stratified.proofs.Totalling.{totalling_next, totalling_end}
use Rattle.stratified.proofs.totals.totals_of.Goals as goal

pub loop-row-preserved : goal.loop-row-preserved
loop-row-preserved c = search totalling_next

pub returns : goal.returns
returns c = search totalling_end
