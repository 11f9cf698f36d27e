-- `steps::steps` meets its contract: the level's refusal, or all answers. Assumes nothing.
use Rattle.std.proofs.lemmas.Result.{err_from_is_err_and}
use Rattle.steps.proofs.Accepted.{steps_promised}
use Rattle.steps.proofs.Following.{level_refused, all_promised}
use Rattle.steps.proofs.steps.Goals as goal

pub returns-in_err-from_percent : goal.returns-in_err-from_percent
returns-in_err-from_percent c =
    let p = err_from_is_err_and c.from_residual.result c.from_residual.ensures.1 in
    rw (p.1, p.2) (steps_promised (level_refused c.args.plan _ _ _ _ c.in_err-from_percent.ensures.answer))

pub returns : goal.returns
returns c =
    all_promised c.args.plan _ _ _ c.in_ok-from_percent.ensures.answer c.in_ok-total.ensures.answer c.in_ok-draws.ensures.answer c.in_ok-figures.ensures.answer c.in_ok-chosen.ensures.answer
    c.in_ok-judgement.ensures.answer
