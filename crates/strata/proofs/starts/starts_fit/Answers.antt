-- A start that does not fit is refused by its place. Assumes nothing.
use borrow.Author.Rules.{rules}
use Rattle.strata.proofs.Starting.{fitting_not}
use Rattle.strata.proofs.starts.starts_fit.Goals as goal

pub returns-then-not-fits : goal.returns-then-not-fits
returns-then-not-fits c = search (rules, fitting_not)
