-- `writer::records::put_number` meets its contract: the lowest bytes of the number are those that are copied. Assumes nothing.
use native.Mathlib.Omega.{arith}
use Rattle.writer.proofs.Laying.{number_laid}
use Rattle.writer.proofs.records.put_number.Goals as goal

pub returns : goal.returns
returns c = number_laid c.args.file.now c.args.at c.args.count c.args.number (omega arith) (omega arith) (omega arith) c.to_le_bytes.ensures c.copy_from_slice.ensures.after
