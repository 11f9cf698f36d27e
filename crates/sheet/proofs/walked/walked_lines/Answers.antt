-- Each way on and out of the loop is a law of the text by the marks. Assumes nothing.
use Rattle.std.proofs.Common.{arith, rules}
use Rattle.sheet.proofs.ByMarks.{walked_first, walked_fits, walked_more, walked_end}
use Rattle.sheet.proofs.walked.walked_lines.Goals as goal

pub loop-item-init : goal.loop-item-init
loop-item-init c = search walked_first

pub walked_line-at-requires : goal.walked_line-at-requires
walked_line-at-requires c = search (rules, walked_fits)

pub loop-item-preserved : goal.loop-item-preserved
loop-item-preserved c = search (walked_more c.loop-item.invariant (omega arith) c.mark_where-mark.ensures, c.walked_line-at.ensures, c.walk_on-walker.ensures)

pub returns : goal.returns
returns c = walked_end c.loop-item.invariant (omega arith)
