-- `confidence::put_statement` meets its contract: the refusal of the size, or what the bound says. Assumes nothing.
use borrow.Author.Rules.{rules}
use Rattle.confidence.proofs.Writing.{items_refused, items_stated}
use Rattle.confidence.proofs.put_statement.Goals as goal

pub returns-in-Err : goal.returns-in-Err
returns-in-Err c = search (rules, items_refused)

pub returns-in-Ok : goal.returns-in-Ok
returns-in-Ok c = search (rules, items_stated)
