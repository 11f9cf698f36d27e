-- Each turn is a law of the walk so far. Assumes nothing.
use Rattle.std.proofs.lemmas.Result.{err_from_is_err_and}
use Rattle.stratified.proofs.Walking.{walking_none, walking_asks, walking_refused, walking_next, walking_end}
use Rattle.stratified.proofs.projection.project_rows.Goals as goal

pub loop-h-init : goal.loop-h-init
loop-h-init c = walking_none c.requires

pub invariant_of-entered : goal.invariant_of-entered
invariant_of-entered c = record { ready = walking_asks c.loop-h.invariant c.loop-h-test.true }

pub returns-in_err-sums : goal.returns-in_err-sums
returns-in_err-sums c =
    let p = err_from_is_err_and c.from_residual.result c.from_residual.ensures.1 in
    rw (p.1, p.2) (walking_refused c.loop-h.invariant c.loop-h-test.true _ c.in_err-sums.ensures.answer)

pub loop-h-preserved : goal.loop-h-preserved
loop-h-preserved c = walking_next c.loop-h.invariant c.loop-h-test.true c.in_ok-sums.ensures.answer c.row_with.ensures

pub returns : goal.returns
returns c = search walking_end
