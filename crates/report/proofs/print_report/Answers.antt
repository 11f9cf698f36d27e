-- `report::print_report` meets its contract: the page has room for every line. Assumes nothing.
use native.Mathlib.Omega.{arith}
use Rattle.report.proofs.Writing.{report_printed}
use Rattle.report.proofs.print_report.Goals as goal

pub returns : goal.returns
returns c = report_printed _ (omega arith) c.put_report.ensures
