-- The refusal of the figures, or the own bits marked at their interval. Assumes nothing.
use Rattle.std.proofs.lemmas.Result.{err_from_is_err_and}
use Rattle.draw.proofs.Answer.{draw_same}
use Rattle.teams.proofs.Answer.{own_refused, own_drawn}
use Rattle.teams.proofs.draw_by.Goals as goal

pub returns-in_err-figures : goal.returns-in_err-figures
returns-in_err-figures c =
    let p = err_from_is_err_and c.from_residual.result c.from_residual.ensures.1 in
    rw (p.1, p.2) (own_refused c.in_err-figures.ensures)

pub mark_drawn-requires : goal.mark_drawn-requires
mark_drawn-requires c = draw_same c.in_ok-figures.ensures

pub returns : goal.returns
returns c = own_drawn c.in_ok-figures.ensures c.mark_drawn.ensures
