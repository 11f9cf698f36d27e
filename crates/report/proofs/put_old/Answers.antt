-- `report::put_old` meets its contract: the figures of an old Z, or the end of the line alone. Assumes nothing.
use borrow.Author.Rules.{rules}
use Rattle.report.proofs.Writing.{old_laid, none_laid}
use Rattle.report.proofs.put_old.Goals as goal

pub returns-in-Some : goal.returns-in-Some
returns-in-Some c = old_laid _ c.in-Some.is c.in-Some.count-is c.in-Some.sum-is (search rules) (search rules) (search rules)

pub returns-in-None : goal.returns-in-None
returns-in-None c = search (rules, none_laid)
