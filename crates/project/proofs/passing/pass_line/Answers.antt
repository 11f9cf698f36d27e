-- No error, the line's refusal, or what follows from the line, by its kind. Assumes nothing.
use Rattle.std.proofs.lemmas.Result.{err_from_is_err_and}
use Rattle.project.proofs.OneLine.{pass_none, pass_stops, fits_over, fits_under, pass_under, pass_over}
use Rattle.project.proofs.passing.pass_line.Goals as goal

pub returns-then-error-eq0 : goal.returns-then-error-eq0
returns-then-error-eq0 c = search pass_none

pub added-under-requires : goal.added-under-requires
added-under-requires c = fits_under _ _ _ _ _ _ _ c.in_ok-line.ensures c.requires

pub returns-then-error-lt0 : goal.returns-then-error-lt0
returns-then-error-lt0 c = pass_under _ _ _ _ _ _ _ c.ranges.error (search) _ c.in_ok-line.ensures _ c.step_over-next.ensures _ c.if-error-lt0.true c.added-under.ensures

pub returns-in_err-line : goal.returns-in_err-line
returns-in_err-line c =
    let p = err_from_is_err_and c.from_residual.result c.from_residual.ensures.1 in
    rw (p.1, p.2) (pass_stops _ _ _ _ _ _ _ c.ranges.error (search) _ c.in_err-line.ensures)

pub added-over-requires : goal.added-over-requires
added-over-requires c = fits_over _ _ _ _ _ _ _ c.in_ok-line.ensures c.requires

pub returns : goal.returns
returns c = pass_over _ _ _ _ _ _ _ c.ranges.error (search) _ c.in_ok-line.ensures _ c.step_over-next.ensures _ _ c.if-error-lt0.false c.added-over.ensures c.keep.ensures
