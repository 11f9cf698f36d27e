-- `results::by_strata::StrataProjectResultFromResultProjectedStrataRefusal::from` meets its contract: what it returns is what the answer says. Assumes nothing.
use borrow.Author.Rules.{rules}
use Rattle.results.proofs.Shown.{strata_shown}
use Rattle.results.proofs.by_strata.StrataProjectResultFromResultProjectedStrataRefusal.from.Goals as goal

pub returns : goal.returns
returns c = search (rules, strata_shown)
