-- A line more is written and counted. Assumes nothing.
use Rattle.teams.proofs.Marking.{marking_none, marking_more, marking_end}
use Rattle.teams.proofs.mark_drawn.Goals as goal

pub loop-line-init : goal.loop-line-init
loop-line-init c = marking_none c.requires

pub loop-line-preserved : goal.loop-line-preserved
loop-line-preserved c = search marking_more

pub returns : goal.returns
returns c = search marking_end
