-- Each turn is a law of the lines so far. Assumes nothing.
use Rattle.handout.proofs.Loops.{stratum_fits, stratifying_more, stratifying_all, stratifying_short}
use Rattle.handout.proofs.lines.strata_lines.Goals as goal

pub stratum_line-next-requires : goal.stratum_line-next-requires
stratum_line-next-requires c = search stratum_fits

pub loop-h-preserved : goal.loop-h-preserved
loop-h-preserved c = search stratifying_more

pub returns : goal.returns
returns c = record { wrote = search stratifying_all; words_len_bound = search stratifying_short }
