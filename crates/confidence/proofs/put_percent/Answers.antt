-- `confidence::put_percent` meets its contract: the whole percents, a point, two decimals. Assumes nothing.
use borrow.Author.Rules.{rules}
use Rattle.confidence.proofs.Writing.{percent_laid}
use Rattle.confidence.proofs.put_percent.Goals as goal

pub returns : goal.returns
returns c = search (rules, percent_laid)
