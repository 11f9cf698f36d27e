-- `writer::records::put_two` meets its contract: a byte, then two numbers. Assumes nothing.
use Rattle.writer.proofs.Laying.{laid_byte, laid_on}
use Rattle.writer.proofs.records.put_two.Goals as goal

pub returns : goal.returns
returns c = search (laid_byte, laid_on)
