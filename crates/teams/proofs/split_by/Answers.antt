-- The refusal of the figures, or the own bits marked at their interval. Assumes nothing.
use Rattle.std.proofs.Common.{sym}
use Rattle.std.proofs.lemmas.Result.{err_from_is_err_and}
use Rattle.bits.proofs.Lists.{with_again}
use Rattle.split.proofs.Facts.{split_same}
use Rattle.teams.proofs.Answer.{on_split}
use Rattle.teams.proofs.split_by.Goals as goal

pub returns-in_err-figures : goal.returns-in_err-figures
returns-in_err-figures c =
    let p = err_from_is_err_and c.from_residual.result c.from_residual.ensures.1 in
    rw (p.1, p.2) (on_split c.in_err-figures.ensures (sym (with_again _ _)))

pub mark_full-requires : goal.mark_full-requires
mark_full-requires c = split_same c.in_ok-figures.ensures

pub returns : goal.returns
returns c = on_split c.in_ok-figures.ensures c.mark_full.ensures
