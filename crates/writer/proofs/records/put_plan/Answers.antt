-- `writer::records::put_plan` meets its contract: two bytes, then two numbers. Assumes nothing.
use Rattle.writer.proofs.Laying.{laid_byte, laid_on}
use Rattle.writer.proofs.records.put_plan.Goals as goal

pub returns : goal.returns
returns c = search (laid_byte, laid_on)
