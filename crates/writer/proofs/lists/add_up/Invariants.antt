-- `writer::lists::add_up` meets its contract. The invariant: what is left to add. Assumes nothing.
use Rattle.writer.proofs.Rows.{SumLeft}
use Rattle.writer.proofs.lists.add_up.Given as goal

abbrev pub invariant-loop-value : goal.invariant-loop-value
invariant-loop-value l = SumLeft l.values l.value-index l.total
