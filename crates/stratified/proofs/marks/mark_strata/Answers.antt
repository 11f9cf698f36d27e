-- Each turn is a law of the marks so far. Assumes nothing.
use Rattle.stratified.proofs.Marking.{marking_markable, marking_same, marking_fits, marking_next, marking_end}
use Rattle.stratified.proofs.marks.mark_strata.Goals as goal

pub mark_lines-drawn-requires : goal.mark_lines-drawn-requires
mark_lines-drawn-requires c = (search marking_markable, search marking_same)

pub overflow_add-drawn : goal.overflow_add-drawn
overflow_add-drawn c = search marking_fits

pub loop-h-preserved : goal.loop-h-preserved
loop-h-preserved c = search marking_next

pub returns : goal.returns
returns c = search marking_end
