-- The invariant: the count and the number of what is left are the number. Assumes nothing.
use Rattle.writer.proofs.Rows.{CountLeft}
use Rattle.writer.proofs.lists.count_errors.Given as goal

abbrev pub invariant-loop-error : goal.invariant-loop-error
invariant-loop-error l = CountLeft l.errors l.error-index l.count
