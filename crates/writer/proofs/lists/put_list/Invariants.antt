-- `writer::lists::put_list` meets its contract. The invariant: what is left to lay. Assumes nothing.
use Rattle.writer.proofs.Rows.{RowsLeft}
use Rattle.writer.proofs.lists.put_list.Given as goal

abbrev pub invariant-loop-number : goal.invariant-loop-number
invariant-loop-number l = RowsLeft l.initial.file l.at l.kind l.list l.file l.number-index l.to
