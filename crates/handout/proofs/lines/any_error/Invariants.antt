-- No line before the one at hand has an error. Assumes nothing.
use Rattle.handout.proofs.Seeking.{Seeking}
use Rattle.handout.proofs.lines.any_error.Given as goal

abbrev pub invariant-loop-error : goal.invariant-loop-error
invariant-loop-error l = Seeking l.errors l.error-index
