-- The rules of one finding: the lengths, and the line on which it may stand, as the code meets them and what they come to. Assumes nothing.
use Prim.Native.Nat.{ℕ, ◌^◌, ◌≤◌, ◌<◌}
use Rattle.std.specs.Prelude.{Ok, Err}
use mathlib.Core.Path.{◌≡◌, refl, sym, ap, ◌∙◌}
use mathlib.Core.Bool.{Bool, true, false, not}
use mathlib.Core.List.{List}
use native.Mathlib.Omega.{arith}
use borrow.Author.Tests.{ltb-false, leb-false, eqb-true, le-ltb, le-leb, lt-leb, eq-eqb, not-false}
use lib.Dec.{eqb, leb, ltb}
use lib.IntN.{ℤ}
use lib.ListN.{length, get_or}
use lib.Signed.{mag}
use Rattle.terms.specs.declared.Refusal.TheVariants.{LineNotThere, ErrorNotDrawn}
use Rattle.terms.specs.Outcome.{Outcome, accepted, says}
use Rattle.terms.proofs.Tests.{by_test}
use Rattle.terms.proofs.Outcomes.{never}
use Rattle.signed.specs.Errors.{size_of}
use Rattle.bits.specs.declared.Bits.{Bits}
use Rattle.bits.specs.Own.{own_of, bits_of}
use Rattle.bits.proofs.Lists.{bits_at}
use Rattle.signed.proofs.Signs.{held, size_read}
use Rattle.findings.specs.Findings.{misplaced, line_of, equally_long}
use Rattle.findings.specs.Batch.{placed_at}

-- the lengths, as `equally_long` meets them
module _ (ledger marks errors : ℕ) where
  long_marks : marks ≡ ledger → eqb errors ledger ≡ equally_long ledger marks errors
  long_marks e = sym (simp (eq-eqb _ _ e))

  -- both are the ledger's
  pub long_same : equally_long ledger marks errors ≡ true → (marks ≡ ledger) × (errors ≡ ledger)
  long_same =
      by_test (λ (b : Bool). b ≡ true → (marks ≡ ledger) × (errors ≡ ledger)) (eqb marks ledger)
      (λ t e. (eqb-true _ _ t, eqb-true _ _ e)) (λ t e. let z : ◌≡◌ {A = ℕ} 0 1 = cc in absurd (omega arith))

  -- the code counts the marks whose own bits they are
  pub long_counted : {lines : ℕ} → marks ≡ lines → {b : Bool} → b ≡ equally_long ledger lines errors → b ≡ equally_long ledger marks errors
  long_counted many is = is ∙ ap (λ (k : ℕ). equally_long ledger k errors) (sym many)

  pub long_told : {lines : ℕ} → marks ≡ lines → {b : Bool} → b ≡ equally_long ledger lines errors → not b ≡ false → (marks ≡ ledger) × (errors ≡ ledger)
  long_told many is t = long_same (sym (long_counted many is) ∙ not-false _ t)

  pub same_long : marks ≡ ledger → errors ≡ ledger → equally_long ledger marks errors ≡ true
  same_long m e = sym (long_marks m) ∙ eq-eqb _ _ e

-- an error on a line that is not drawn, as `misplaced` meets it
module _ (mark size : ℕ) where
  pub placed_none : size ≡ 0 → false ≡ misplaced mark size
  placed_none z = sym (simp (eq-eqb _ _ z))

-- the own bits of a line's mark, as `line_of` reads them
module _ (bits : Bits) (marks : List ℕ) (line : ℕ) where
  pub mark_read : (size : ℕ) {mark : ℕ} {b : Bool} → mark ≡ own_of bits (get_or marks line 0) → b ≡ misplaced mark size → b ≡ misplaced (get_or (bits_of bits marks) line 0) size
  mark_read size is told = told ∙ ap (λ (k : ℕ). misplaced k size) (is ∙ sym (bits_at bits marks line))

-- where a finding may stand: its line is in the ledger, the error's size is within the value, and the mark says drawn or full where it is not 0
pub record Stands (ledger marks : List ℕ) (line : ℕ) (error : ℤ) : Type 0 where
  pub inside : line < length ledger
  pub within : size_of error ≤ get_or ledger line 0
  pub marked : misplaced (get_or marks line 0) (size_of error) ≡ false

module _ (ledger marks : List ℕ) (line : ℕ) (error : ℤ) where
  pub line_stands : Stands ledger marks line error → line_of ledger marks line error ≡ accepted line
  unfolding line_of
  line_stands at = simp (lt-leb _ _ at.inside, le-ltb _ _ at.within, at.marked)

  pub stands_line : {at : ℕ} → line_of ledger marks line error ≡ accepted at → (at ≡ line) × Stands ledger marks line error
  unfolding line_of
  stands_line {at} =
      by_test (λ (o : Outcome ℕ). o ≡ accepted at → (at ≡ line) × Stands ledger marks line error) (leb (length ledger) line) (λ t e. never e)
      (λ inside. by_test (λ (o : Outcome ℕ). o ≡ accepted at → (at ≡ line) × Stands ledger marks line error) (ltb (get_or ledger line 0) (size_of error)) (λ t e. never e)
      (λ within. by_test (λ (o : Outcome ℕ). o ≡ accepted at → (at ≡ line) × Stands ledger marks line error) (misplaced (get_or marks line 0) (size_of error)) (λ t e. never e)
      (λ marked e. (cc, record { inside = leb-false _ _ inside; within = ltb-false _ _ within; marked = marked }))))

  -- its refusals name place 0
  pub line_first : placed_at 0 (line_of ledger marks line error) ≡ line_of ledger marks line error
  unfolding line_of
  line_first =
      by_test (λ (o : Outcome ℕ). placed_at 0 o ≡ o) (leb (length ledger) line) (λ t. refl)
      (λ t. by_test (λ (o : Outcome ℕ). placed_at 0 o ≡ o) (ltb (get_or ledger line 0) (size_of error)) (λ u. refl)
      (λ u. by_test (λ (o : Outcome ℕ). placed_at 0 o ≡ o) (misplaced (get_or marks line 0) (size_of error)) (λ v. refl) (λ v. refl)))

  -- as `line_of` meets it, with the error read from its bits
  module _ (position : ℕ) where
    pub line_not_there : length ledger ≤ line → says {A = ℕ} (Err (LineNotThere position)) ≡ placed_at position (line_of ledger marks line error)
    unfolding line_of
    line_not_there h = sym (simp (le-leb _ _ h))

    module _ (inside : line < length ledger) (fits : mag error < 2 ^ 63) {size : ℕ} (told : size ≡ size_of (held error)) (within : size ≤ get_or ledger line 0) {b : Bool}
        (is : b ≡ misplaced (get_or marks line 0) size) where
      size_is : size ≡ size_of error
      size_is = size_read error fits told

      marked : {c : Bool} → b ≡ c → misplaced (get_or marks line 0) (size_of error) ≡ c
      marked t = sym (ap (misplaced (get_or marks line 0)) size_is) ∙ sym is ∙ t

      pub line_not_drawn : b ≡ true → says {A = ℕ} (Err (ErrorNotDrawn position)) ≡ placed_at position (line_of ledger marks line error)
      unfolding line_of
      line_not_drawn t = sym (simp (lt-leb _ _ inside, le-ltb (get_or ledger line 0) (size_of error) (omega (arith, size_is)), marked t))

      pub line_passes : b ≡ false → says (Ok line) ≡ placed_at position (line_of ledger marks line error)
      line_passes t = sym (ap (placed_at position) (line_stands (record { inside = inside; within = omega (arith, size_is); marked = marked t })))
