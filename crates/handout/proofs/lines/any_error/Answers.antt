-- The size of the error at hand decides. Assumes nothing.
use Rattle.handout.proofs.Seeking.{seeking_found, seeking_more, seeking_end}
use Rattle.handout.proofs.lines.any_error.Goals as goal

pub returns-then-size_of-gt0 : goal.returns-then-size_of-gt0
returns-then-size_of-gt0 c = search seeking_found

pub loop-error-preserved : goal.loop-error-preserved
loop-error-preserved c = search seeking_more

pub returns : goal.returns
returns c = search seeking_end
