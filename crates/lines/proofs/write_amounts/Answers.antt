-- `lines::write_amounts` meets its contract: none is written, one more, all. Assumes nothing.
use Rattle.lines.proofs.Writing.{written_none, written_more, written_all}
use Rattle.lines.proofs.write_amounts.Goals as goal

pub loop-item-init : goal.loop-item-init
loop-item-init c = written_none _ _ _ _ _ c.requires.amounts_same

pub loop-item-preserved : goal.loop-item-preserved
loop-item-preserved c = search written_more

pub returns : goal.returns
returns c = search written_all
