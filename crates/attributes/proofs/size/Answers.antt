-- The first refusal, or the size that table 1 has there. Assumes nothing.
use Rattle.std.proofs.Common.{refl}
use Rattle.std.proofs.lemmas.Result.{err_from_is_err_and}
use Rattle.attributes.specs.Table.{sizes}
use Rattle.attributes.proofs.Order.{items_lacking, items_read}
use Rattle.attributes.proofs.Whole.{items_promised}
use Rattle.attributes.proofs.size.Goals as goal

pub returns-in_err-at : goal.returns-in_err-at
returns-in_err-at c =
    let p = err_from_is_err_and c.from_residual.result c.from_residual.ensures.1 in
    rw (p.1, p.2) (items_promised (items_lacking _ _ _ c.in_err-at.ensures))

pub returns : goal.returns
unfolding sizes
returns c = items_promised (items_read _ _ _ c.in_ok-at.ensures refl)
