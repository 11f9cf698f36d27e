-- `report::put_named` meets its contract: the word, a space, the figure. Assumes nothing.
use borrow.Author.Rules.{rules}
use Rattle.report.proofs.Writing.{named_laid}
use Rattle.report.proofs.put_named.Goals as goal

pub returns : goal.returns
returns c = search (rules, named_laid)
