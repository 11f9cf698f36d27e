-- The refusals before the lines, and then the strata. Assumes nothing.
use Rattle.std.proofs.lemmas.Result.{err_from_is_err_and}
use Rattle.stratified.proofs.Underway.{underway}
use Rattle.stratified.proofs.Totalling.{strata_refused, walk_refused, strata_projected}
use Rattle.stratified.proofs.projection.project_strata.Goals as goal

pub returns-in_err-plan : goal.returns-in_err-plan
returns-in_err-plan c =
    let p = err_from_is_err_and c.from_residual.result c.from_residual.ensures.1 in
    rw (p.1, p.2) (strata_refused _ _ _ _ _ _ c.in_err-plan.ensures)

pub project_rows-requires : goal.project_rows-requires
project_rows-requires c = underway _ _ _ _ _ c.in_ok-plan.ensures

pub returns-in_err-rows : goal.returns-in_err-rows
returns-in_err-rows c =
    let p = err_from_is_err_and c.from_residual-in_err-rows.result c.from_residual-in_err-rows.ensures.1 in
    rw (p.1, p.2) (walk_refused _ _ _ _ _ c.in_ok-plan.ensures _ c.in_err-rows.ensures)

pub returns : goal.returns
returns c = strata_projected _ _ _ _ _ c.in_ok-plan.ensures c.in_ok-rows.ensures c.with_totals.ensures
