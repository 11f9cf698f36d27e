-- `totals::blocks::first_wrong` meets its contract: a figure that is wrong, one that is right, then the grand total. Assumes nothing.
use Rattle.totals.proofs.Loops.{comparing_wrong, comparing_more, comparing_last, comparing_right}
use Rattle.totals.proofs.blocks.first_wrong.Goals as goal

pub returns-then-figure-add_lines : goal.returns-then-figure-add_lines
returns-then-figure-add_lines c = search comparing_wrong

pub loop-block-preserved : goal.loop-block-preserved
loop-block-preserved c = search comparing_more

pub returns-then-summary-many : goal.returns-then-summary-many
returns-then-summary-many c = search comparing_last

pub returns : goal.returns
returns c = search comparing_right
