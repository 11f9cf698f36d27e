-- The refusal of the plan, 11, or the plan. Assumes nothing.
use Rattle.std.proofs.lemmas.Result.{err_from_is_err_and}
use Rattle.strata.proofs.Starting.{starts_few, start_refused, starts_good}
use Rattle.strata.proofs.starts.started.Goals as goal

pub starts_fit-requires : goal.starts_fit-requires
starts_fit-requires c = starts_few _ _ _ _ _ c.lengths_agree-same.ensures c.in_ok-plan.ensures

pub returns-in_err-starts_fit : goal.returns-in_err-starts_fit
returns-in_err-starts_fit c =
    let p = err_from_is_err_and c.from_residual-in_err-starts_fit.result c.from_residual-in_err-starts_fit.ensures.1 in
    rw (p.1, p.2) (start_refused _ _ _ _ _ c.lengths_agree-same.ensures c.in_ok-plan.ensures _ c.in_err-starts_fit.ensures)

pub returns : goal.returns
returns c = starts_good _ _ _ _ _ c.lengths_agree-same.ensures c.in_ok-plan.ensures c.in_ok-starts_fit.ensures
