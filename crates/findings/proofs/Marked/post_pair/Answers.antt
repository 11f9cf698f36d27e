-- The refusal of the pair's line, or the error stored there. Assumes nothing.
use Rattle.std.proofs.Common.{refl, ◌∙◌}
use Rattle.std.proofs.lemmas.Result.{err_from_is_err_and}
use native.Mathlib.Omega.{arith}
use Rattle.bits.proofs.Lists.{bits_length}
use Rattle.findings.proofs.Posting.{pair_refused, pair_inside, pair_posted}
use Rattle.findings.proofs.Marked.post_pair.Goals as goal

pub returns-in_err-item : goal.returns-in_err-item
returns-in_err-item c =
    let p = err_from_is_err_and c.from_residual.result c.from_residual.ensures.1 in
    rw (p.1, p.2) (pair_refused _ _ _ _ _ _ (bits_length _ _ ∙ c.args.self.same) c.requires (search) _ c.in_err-item.ensures refl)

pub offset_bounds-errors-item : goal.offset_bounds-errors-item
offset_bounds-errors-item c = omega (arith, pair_inside _ _ _ _ c.args.error _ (bits_length _ _ ∙ c.args.self.same) c.requires (search) _ c.in_ok-item.ensures refl)

pub bounds-errors-item : goal.bounds-errors-item
bounds-errors-item c = pair_inside _ _ _ _ c.args.error _ (bits_length _ _ ∙ c.args.self.same) c.requires (search) _ c.in_ok-item.ensures refl

pub returns : goal.returns
returns c = pair_posted _ _ _ _ _ _ (bits_length _ _ ∙ c.args.self.same) c.requires (search) _ c.in_ok-item.ensures refl
