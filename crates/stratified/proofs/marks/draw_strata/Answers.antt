-- The refusals before the marks, and then the marks of each stratum. Assumes nothing.
use Rattle.std.proofs.lemmas.Result.{err_from_is_err_and}
use Rattle.stratified.proofs.Underway.{underway}
use Rattle.stratified.proofs.Marking.{strata_refused, strata_drawn}
use Rattle.stratified.proofs.marks.draw_strata.Goals as goal

pub returns-in_err-plan : goal.returns-in_err-plan
returns-in_err-plan c =
    let p = err_from_is_err_and c.from_residual.result c.from_residual.ensures.1 in
    rw (p.1, p.2) (strata_refused _ _ _ _ _ _ c.in_err-plan.ensures)

pub mark_strata-requires : goal.mark_strata-requires
mark_strata-requires c = underway _ _ _ _ _ c.in_ok-plan.ensures

pub returns : goal.returns
returns c = strata_drawn _ _ _ _ _ c.in_ok-plan.ensures c.mark_strata.ensures
