-- Whether a line has an error, as the loop along the errors meets it. Assumes nothing.
use Prim.Native.Nat.{ℕ, ◌+◌, ◌≤◌, ◌<◌}
use mathlib.Core.Path.{◌≡◌, sym, ap, ◌∙◌}
use mathlib.Core.Bool.{true, false}
use mathlib.Core.List.{List, ◌∷◌}
use native.Mathlib.Numerals.{add-one}
use native.Mathlib.Omega.{arith}
use borrow.Author.Tests.{lt-ltb, le-ltb}
use lib.IntN.{ℤ, pos}
use lib.ListN.{length, get_or, drop, drop_of_length-le}
use lib.Seq.{drop-cons}
use mir.Syntax.{w64}
use mir.Val.{SFits}
use Rattle.signed.specs.Errors.{size_of}
use Rattle.signed.proofs.Signs.{held, size_read}
use Rattle.handout.specs.Lines.{any_error}

any_on : (errors : List ℤ) (line : ℕ) → line < length errors → any_error (drop line errors) ≡ any_error (get_or errors line (pos 0) ∷ drop (line + 1) errors)
any_on errors line inside = rw (add-one line) (ap any_error (drop-cons errors line (pos 0) inside))

-- no line before this one has any
pub record Seeking (errors : List ℤ) (line : ℕ) : Type 0 where
  pub inside : line ≤ length errors
  pub rest : any_error (drop line errors) ≡ any_error errors

module _ {errors : List ℤ} {line : ℕ} (so_far : Seeking errors line) where
  module _ (here : line < length errors) (fits : SFits w64 (get_or errors line (pos 0))) {size : ℕ} (told : size ≡ size_of (held (get_or errors line (pos 0)))) where
    own_size : size ≡ size_of (get_or errors line (pos 0))
    own_size = size_read (get_or errors line (pos 0)) fits.sfits told

    pub seeking_found : 0 < size → true ≡ any_error errors
    unfolding any_error
    seeking_found some = sym (any_on errors line here ∙ simp (lt-ltb 0 (size_of (get_or errors line (pos 0))) (omega (arith, own_size)))) ∙ so_far.rest

    pub seeking_more : size ≤ 0 → Seeking errors (line + 1)
    unfolding any_error
    seeking_more none =
        record { inside = omega arith; rest = sym (any_on errors line here ∙ simp (le-ltb 0 (size_of (get_or errors line (pos 0))) (omega (arith, own_size)))) ∙ so_far.rest }

  pub seeking_end : length errors ≤ line → false ≡ any_error errors
  unfolding any_error
  seeking_end end = sym (ap any_error (drop_of_length-le errors end)) ∙ so_far.rest
