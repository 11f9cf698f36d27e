-- `entry::records::record_with` meets its contract: the numbers that the kind asks, or what is wrong with them. Assumes nothing.
use borrow.Author.Rules.{rules}
use Rattle.entry.proofs.Lines.{no_numbers_lem}
use Rattle.entry.proofs.records.record_with.Goals as goal

pub returns-in-Err : goal.returns-in-Err
returns-in-Err c = search (rules, no_numbers_lem)
