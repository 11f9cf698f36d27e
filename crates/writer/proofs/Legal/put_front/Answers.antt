-- `writer::Legal::put_front` meets its contract: three parts one after another, each with its room. Assumes nothing.
use native.Mathlib.Omega.{arith}
use Rattle.writer.proofs.Laying.{laid_on}
use Rattle.writer.proofs.Rows.{rows_end}
use Rattle.writer.proofs.Legal.put_front.Goals as goal

pub put_list-requires : goal.put_list-requires
put_list-requires c = omega (arith, rows_end)

pub returns : goal.returns
returns c = search laid_on
