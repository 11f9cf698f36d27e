-- The first refusal, more than ten exceptions the last of them, or the bound that the table has. Assumes nothing.
use Rattle.std.proofs.Common.{refl, arith}
use Rattle.std.proofs.lemmas.Result.{err_from_is_err_and}
use Rattle.attributes.specs.Table.{bounds}
use Rattle.attributes.proofs.Order.{bound_lacking, too_many, bound_read}
use Rattle.attributes.proofs.Whole.{bound_promised}
use Rattle.attributes.proofs.bound.Goals as goal

pub returns-in_err-at : goal.returns-in_err-at
returns-in_err-at c =
    let p = err_from_is_err_and c.from_residual.result c.from_residual.ensures.1 in
    rw (p.1, p.2) (bound_promised (bound_lacking _ _ _ c.in_err-at.ensures _))

pub returns-then-exceptions-gt10 : goal.returns-then-exceptions-gt10
returns-then-exceptions-gt10 c = bound_promised (too_many _ _ _ c.in_ok-at.ensures (omega arith))

pub returns : goal.returns
unfolding bounds
returns c = bound_promised (bound_read _ _ _ c.in_ok-at.ensures (omega arith) refl)
