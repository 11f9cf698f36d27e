-- `records::rules::take` meets its contract at E and U, where the next line is one more. Assumes nothing.
use Rattle.records.proofs.Judging.{error_taken}
use Rattle.records.proofs.rules.take.Goals as goal

pub returns-in-ErrorOf : goal.returns-in-ErrorOf
returns-in-ErrorOf c = search error_taken
