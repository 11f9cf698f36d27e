-- `faults::print_fault` meets its contract: the page has room for every fault's line. Assumes nothing.
use borrow.Author.Rules.{rules}
use native.Mathlib.Omega.{arith}
use Rattle.pen.proofs.Writing.{printed}
use Rattle.faults.proofs.Lengths.{fault_short}
use Rattle.faults.proofs.print_fault.Goals as goal

pub returns : goal.returns
returns c = printed _ _ _ _ (omega (arith, fault_short c.args.by c.args.fault (search rules))) c.write_line.ensures
