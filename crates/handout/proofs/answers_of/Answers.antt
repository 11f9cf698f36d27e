-- The refusal of the plan, of the starts or of the projection, or what they answer. Assumes nothing.
use Rattle.std.proofs.lemmas.Result.{err_from_is_err_and}
use Rattle.handout.proofs.Printing.{plan_refused, planned_few, rows_few, starts_refused, sums_refused, answered}
use Rattle.handout.proofs.answers_of.Goals as goal

pub shared_ref_as_front-starts_of : goal.shared_ref_as_front-starts_of
shared_ref_as_front-starts_of c = planned_few _ _ c.args.words.now _ _ c.in_ok-plan.ensures

pub starts_of-requires : goal.starts_of-requires
starts_of-requires c = rows_few _ _ c.args.words.now _ _ c.in_ok-plan.ensures

pub returns-in_err-plan : goal.returns-in_err-plan
returns-in_err-plan c =
    let p = err_from_is_err_and c.from_residual.result c.from_residual.ensures.1 in
    rw (p.1, p.2) (plan_refused _ _ _ _ _ _ c.in_err-plan.ensures)

pub returns-in_err-chosen : goal.returns-in_err-chosen
returns-in_err-chosen c =
    let p = err_from_is_err_and c.from_residual-in_err-chosen.result c.from_residual-in_err-chosen.ensures.1 in
    rw (p.1, p.2) (starts_refused _ _ _ _ _ c.in_ok-plan.ensures _ c.in_err-chosen.ensures)

pub returns-in_err-sums : goal.returns-in_err-sums
returns-in_err-sums c =
    let p = err_from_is_err_and c.from_residual-in_err-sums.result c.from_residual-in_err-sums.ensures.1 in
    rw (p.1, p.2) (sums_refused _ _ _ _ _ c.in_ok-plan.ensures c.in_ok-chosen.ensures _ c.in_err-sums.ensures)

pub returns : goal.returns
returns c = answered _ _ _ _ _ c.in_ok-plan.ensures c.in_ok-chosen.ensures c.in_ok-sums.ensures
