-- 24, or the call by the team's own bits. Assumes nothing.
use Rattle.std.proofs.Common.{refl}
use Rattle.std.proofs.lemmas.Result.{err_from_is_err_and}
use Rattle.teams.proofs.Answer.{team_unknown, team_acting}
use Rattle.teams.proofs.team_draw.Goals as goal

pub returns-in_err-acting : goal.returns-in_err-acting
returns-in_err-acting c =
    let p = err_from_is_err_and c.from_residual.result c.from_residual.ensures.1 in
    rw (p.1, p.2) (team_unknown _ _ c.in_err-acting.ensures refl)

pub returns : goal.returns
returns c = team_acting _ _ c.in_ok-acting.ensures c.draw_by.ensures
