-- A line more is written. Assumes nothing.
use Rattle.teams.proofs.Marking.{filling_more, filling_end}
use Rattle.teams.proofs.mark_full.Goals as goal

pub loop-line-preserved : goal.loop-line-preserved
loop-line-preserved c = search filling_more

pub returns : goal.returns
returns c = search filling_end
