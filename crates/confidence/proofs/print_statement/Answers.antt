-- `confidence::print_statement` meets its contract: bytes for the numbers, and a page that has room for every statement. Assumes nothing.
use native.Mathlib.Omega.{arith}
use Rattle.confidence.proofs.Asking.{numbers_printed}
use Rattle.confidence.proofs.print_statement.Goals as goal

pub returns : goal.returns
returns c = numbers_printed c.byte_of.ensures c.byte_of-2.ensures _ (omega arith) c.put_statement.ensures
