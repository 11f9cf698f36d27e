-- `records::record_at` meets its contract at E and U: one law has both kinds. Assumes nothing.
use borrow.Author.Rules.{rules}
use Rattle.workfile.proofs.Finding.{error_at}
use Rattle.records.proofs.record_at.Goals as goal

pub returns-in-69 : goal.returns-in-69
returns-in-69 c = search (rules, error_at)

pub returns-in-85 : goal.returns-in-85
returns-in-85 c = search (rules, error_at)
