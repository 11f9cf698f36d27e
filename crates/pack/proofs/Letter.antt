-- The letter of a first line, as `letter_place` looks for it. Assumes nothing.
use Prim.Native.Nat.{ℕ, ◌+◌, ◌≤◌, ◌<◌}
use native.Mathlib.Omega.{arith}
use mathlib.Core.Path.{◌≡◌, sym, ap, ◌∙◌}
use mathlib.Core.List.{List}
use mathlib.Core.Logic.{⊎_elim}
use borrow.Author.Tests.{lt-ltb, le-ltb, eq-eqb, ne_eqb}
use lib.ListN.{length, get_or, get_or-eq_default}
use Rattle.terms.proofs.Tests.{le_or_lt}
use Rattle.entry.specs.declared.Run.{Run}
use Rattle.entry.specs.Steps.{Reached}
use Rattle.pack.specs.Method.{after_blanks, place_by, letter_place}

module _ (text : List ℕ) {at : ℕ} (blanks : Reached Run.Blanks text 0 at) where
  place : letter_place text ≡ place_by text at (after_blanks text (at + 1))
  unfolding letter_place
  place = ap (λ (k : ℕ). place_by text k (after_blanks text (k + 1))) (sym blanks.same)

  pub no_letter : (get_or text at 0 ≡ 0x42 → ⊥) → length text ≡ letter_place text
  no_letter none =
      let z : place_by text at (after_blanks text (at + 1)) ≡ length text = simp (ne_eqb (get_or text at 0) 0x42 none) in
      sym (place ∙ z)

  pub no_byte : at ≡ length text → length text ≡ letter_place text
  no_byte end =
      let zero : get_or text at 0 ≡ 0 = get_or-eq_default text 0 {n = at} (omega arith) in
      no_letter (λ z. omega (arith, zero, z))

  module _ (letter : get_or text at 0 ≡ 0x42) {after : ℕ} (more : Reached Run.Blanks text (at + 1) after) where
    place_after : letter_place text ≡ place_by text at after
    place_after = place ∙ ap (place_by text at) (sym more.same)

    pub letter_ends : after ≡ length text → at ≡ letter_place text
    letter_ends end =
        let past : length text ≤ after = omega arith in
        let z : place_by text at after ≡ at = simp (eq-eqb (get_or text at 0) 0x42 letter, le-ltb after (length text) past) in
        sym (place_after ∙ z)

    module _ (inside : after ≡ length text → ⊥) where
      before : after < length text
      before = ⊎_elim (λ (h : length text ≤ after). absurd (inside (omega (arith, more.within)))) (λ (h : after < length text). h) (le_or_lt (length text) after)

      pub letter_line : get_or text after 0 ≡ 10 → at ≡ letter_place text
      letter_line newline =
          let z : place_by text at after ≡ at = simp (eq-eqb (get_or text at 0) 0x42 letter, lt-ltb after (length text) before, eq-eqb (get_or text after 0) 10 newline) in
          sym (place_after ∙ z)

      pub letter_more : (get_or text after 0 ≡ 10 → ⊥) → length text ≡ letter_place text
      letter_more other =
          let z : place_by text at after ≡ length text = simp (eq-eqb (get_or text at 0) 0x42 letter, lt-ltb after (length text) before, ne_eqb (get_or text after 0) 10 other) in
          sym (place_after ∙ z)
