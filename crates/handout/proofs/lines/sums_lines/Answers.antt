-- Each turn is a law of the sums so far. Assumes nothing.
use Rattle.handout.proofs.Loops.{summing_none, summing_more, summing_all, summing_short}
use Rattle.handout.proofs.lines.sums_lines.Goals as goal

pub loop-h-init : goal.loop-h-init
loop-h-init c = search summing_none

pub loop-h-preserved : goal.loop-h-preserved
loop-h-preserved c = search summing_more

pub returns : goal.returns
returns c = record { wrote = search summing_all; rows_len_bound = search summing_short }
