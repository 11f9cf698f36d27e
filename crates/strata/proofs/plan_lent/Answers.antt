-- What the checks leave. Assumes nothing.
use Rattle.strata.proofs.Planning.{checks_judged}
use Rattle.strata.proofs.plan_lent.Goals as goal

pub invariant_of-strata : goal.invariant_of-strata
invariant_of-strata c = record { judged = checks_judged _ _ _ c.in_ok-total.ensures }
