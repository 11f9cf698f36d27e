-- Each turn is a law of the lines so far. Assumes nothing.
use Rattle.handout.proofs.Loops.{drawing_asks, drawing_more, drawing_all}
use Rattle.handout.proofs.lines.drawn_lines.Goals as goal

pub ledger_lines-next-requires : goal.ledger_lines-next-requires
ledger_lines-next-requires c = search drawing_asks

pub loop-h-preserved : goal.loop-h-preserved
loop-h-preserved c = search drawing_more

pub returns : goal.returns
returns c = search drawing_all
