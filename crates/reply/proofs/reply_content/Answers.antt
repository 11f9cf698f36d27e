-- `reply::reply_content` meets its contract: the first fault of the strata's order, or the sheet of as many counts as are stored. Assumes nothing.
use mathlib.Core.Path.{refl}
use borrow.Author.Rules.{rules}
use Rattle.std.proofs.lemmas.Result.{err_from_is_err_and}
use Rattle.reply.proofs.Replying.{content_faulty, content_printed}
use Rattle.reply.proofs.reply_content.Goals as goal

pub returns-in_err-divided : goal.returns-in_err-divided
returns-in_err-divided c =
    let p = err_from_is_err_and c.from_residual.result c.from_residual.ensures.1 in rw (p.1, p.2) (content_faulty _ _ _ _ _ _ c.in_err-divided.ensures)

pub returns : goal.returns
returns c =
    let w = c.print_handout-end.ensures in
    content_printed _ _ _ _ _ _ c.in_ok-divided.ensures c.requires (search rules) (w.wrote, w.errors_len_bound) refl
