-- `writer::lists::put_errors` meets its contract. The invariant: what is left to lay. Assumes nothing.
use Rattle.writer.proofs.Rows.{ErrorsLeft}
use Rattle.writer.proofs.lists.put_errors.Given as goal

abbrev pub invariant-loop-line : goal.invariant-loop-line
invariant-loop-line l = ErrorsLeft l.initial.file l.at l.errors l.file l.line l.to
