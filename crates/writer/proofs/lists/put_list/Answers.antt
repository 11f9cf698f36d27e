-- `writer::lists::put_list` meets its contract: one record more is laid. Assumes nothing.
use Rattle.writer.proofs.Rows.{rows_on}
use Rattle.writer.proofs.lists.put_list.Goals as goal

pub loop-number-preserved : goal.loop-number-preserved
loop-number-preserved c = search rows_on
