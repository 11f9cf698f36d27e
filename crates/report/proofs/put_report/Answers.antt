-- `report::put_report` meets its contract: the line of a refusal, or of what was done. Assumes nothing.
use borrow.Author.Rules.{rules}
use Rattle.report.proofs.Writing.{report_refused, report_kept}
use Rattle.report.proofs.put_report.Goals as goal

pub returns-in-Err : goal.returns-in-Err
returns-in-Err c = search (rules, report_refused)

pub returns-in-Ok : goal.returns-in-Ok
returns-in-Ok c = search (rules, report_kept)
