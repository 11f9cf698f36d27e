-- `writer::records::put_one` meets its contract: a byte, then a number. Assumes nothing.
use Rattle.writer.proofs.Laying.{laid_byte}
use Rattle.writer.proofs.records.put_one.Goals as goal

pub returns : goal.returns
returns c = search laid_byte
