-- The amounts that are kept: one line's, as `keep` meets it, and those of all lines, which stand in front, sorted, where there was room.
-- Assumes nothing.
use Prim.Native.Nat.{ℕ, suc, ◌+◌, ◌≤◌, ◌<◌, zero-le}
use native.Mathlib.Nat.{add-zero, zero-add}
use native.Mathlib.Numerals.{add-one}
use native.Mathlib.Omega.{arith}
use mathlib.Core.Path.{◌≡◌, refl, sym, ap, ◌∙◌, subst}
use mathlib.Core.Bool.{Bool, true, false}
use mathlib.Core.List.{List, [], ◌∷◌}
use borrow.Author.Tests.{le-ltb}
use lib.Dec.{ltb}
use lib.IntN.{ℤ}
use lib.ListN.{length, take}
use lib.Seq.{take_all}
use Rattle.terms.specs.Outcome.{accepted}
use Rattle.terms.specs.Numbers.{pick}
use Rattle.terms.proofs.Tests.{by_test}
use Rattle.sorting.specs.Sorting.{sort_onto, sort_down, Sorted, placed}
use Rattle.sorting.proofs.Sorted.{onto_none, onto_more, sort_is, placed_front, placed_length, placed_sorted}
use Rattle.signed.specs.declared.Part.TheVariants.{Overstated, Size}
use Rattle.signed.specs.Parts.{parts}
use Rattle.project.specs.declared.State.{State}
use Rattle.project.specs.declared.State.TheVariants.{NotDrawn, Drawn, Full}
use Rattle.project.specs.declared.Line.{Line}
use Rattle.project.specs.Lines.{count_part, amount_before, amounts_of}
use Rattle.project.specs.Project.{checked_from, checked_lines, lines_with}
use Rattle.project.specs.Gather.{kept_by, kept_from, passed, kept_of}
use Rattle.project.proofs.Lines.{lines_length}
use Rattle.project.proofs.Checking.{checked_rest, checked_same}

-- one line, as `keep` meets it
module _ (amounts : List ℕ) (m : ℕ) (s : State) (e : ℕ) where
  pub kept_no_error : (a : ℕ) → s ≡ Drawn a → e ≤ 0 → amounts ≡ kept_by amounts m s e
  unfolding kept_by
  kept_no_error a q h = rw q (simp (le-ltb _ _ h))

  pub kept_not_drawn : s ≡ NotDrawn → amounts ≡ kept_by amounts m s e
  unfolding kept_by
  kept_not_drawn q = rw q refl

  pub kept_full : s ≡ Full → amounts ≡ kept_by amounts m s e
  unfolding kept_by
  kept_full q = rw q refl

-- a line without an error leaves the list,
pub kept_none : (amounts : List ℕ) (m : ℕ) (s : State) → kept_by amounts m s 0 ≡ amounts
kept_none amounts m NotDrawn = sym (kept_not_drawn amounts m NotDrawn 0 refl)
kept_none amounts m (Drawn a) = sym (kept_no_error amounts m (Drawn a) 0 a refl zero-le)
kept_none amounts m Full = sym (kept_full amounts m Full 0 refl)

-- every line leaves its length,
pub kept_length : (amounts : List ℕ) (m : ℕ) (s : State) (e : ℕ) → length (kept_by amounts m s e) ≡ length amounts
unfolding kept_by
kept_length amounts m NotDrawn e = refl
kept_length amounts m (Drawn a) e = by_test (λ (l : List ℕ). length l ≡ length amounts) (ltb 0 e) (λ _. placed_length amounts m a) (λ _. refl)
kept_length amounts m Full e = refl

-- and those in front of the next place fall
none_more : (amounts : List ℕ) (m : ℕ) → Sorted (take m amounts) → Sorted (take (m + 0) amounts)
none_more amounts m S = subst (λ (n : ℕ). Sorted (take n amounts)) (sym (add-zero m)) S

one_more : (amounts : List ℕ) (m a : ℕ) (b : Bool) → Sorted (take m amounts) → Sorted (take (m + pick b 1 0) (pick b (placed amounts m a) amounts))
one_more amounts m a true S = subst (λ (n : ℕ). Sorted (take n (placed amounts m a))) (sym (add-one m)) (placed_sorted amounts m a S)
one_more amounts m a false S = none_more amounts m S

pub kept_sorted : (amounts : List ℕ) (m : ℕ) (s : State) (e : ℕ) → Sorted (take m amounts) → Sorted (take (m + count_part s e) (kept_by amounts m s e))
unfolding kept_by
kept_sorted amounts m NotDrawn e S = none_more amounts m S
kept_sorted amounts m (Drawn a) e S = one_more amounts m a (ltb 0 e) S
kept_sorted amounts m Full e S = none_more amounts m S

-- one line more, where the others are kept by `more` after it
abbrev Front : (ℕ → List ℕ → List ℕ) → List ℕ → ℕ → List ℕ → Type 0
Front more own m amounts = m + length own ≤ length amounts → take (m + length own) (more m amounts) ≡ sort_onto (take m amounts) own

module _ (more : ℕ → List ℕ → List ℕ) (own : List ℕ) (on : (m : ℕ) (amounts : List ℕ) → Front more own m amounts) (m : ℕ) (amounts : List ℕ) where
  front_none : Front (λ k l. more (k + 0) l) own m amounts
  front_none room = rw add-zero (on m amounts room)

  front_drawn : (a : ℕ) (b : Bool) → Front (λ k l. more (k + pick b 1 0) (pick b (placed l k a) l)) (pick b (a ∷ own) own) m amounts
  front_drawn a true room =
      let inside : m < length amounts = omega arith in
      let place : m + suc (length own) ≡ suc m + length own = omega arith in
      rw (add-one, place)
      (on (suc m) (placed amounts m a) (omega (arith, placed_length amounts m a)) ∙ ap (λ (l : List ℕ). sort_onto l own) (placed_front amounts m a inside) ∙ sym (onto_more (take m amounts) a own))
  front_drawn a false room = front_none room

  front_line : (s : State) (e : ℕ) → Front (λ k l. more (k + count_part s e) (kept_by l k s e)) (amount_before s e own) m amounts
  unfolding kept_by
  front_line NotDrawn e = front_none
  front_line (Drawn a) e = front_drawn a (ltb 0 e)
  front_line Full e = front_none

kept_front : (ls : List Line) (m : ℕ) (amounts : List ℕ) → Front (kept_from ls) (amounts_of ls) m amounts
unfolding kept_from amounts_of
kept_front [] m amounts room = rw add-zero (sym (onto_none (take m amounts)))
kept_front (l ∷ ls) m amounts room = front_line (kept_from ls) (amounts_of ls) (kept_front ls) m amounts l.state l.error room

-- where no line is refused, all pass
passed_all : (item : ℕ) (ls : List Line) → checked_from item ls ≡ accepted ls → passed item ls ≡ length ls
unfolding passed
passed_all item [] e = refl
passed_all item (l ∷ ls) e =
    let c = checked_rest item l ls (l ∷ ls) e in
    rw c.sound.passes (ap suc (passed_all (suc item) ls c.rest))

-- and where there is room, the overstated amounts stand in front, sorted
module _ (item J start : ℕ) (ledger : List ℕ) (errors : List ℤ) (amounts : List ℕ) where
  abbrev own : List ℕ
  own = amounts_of (lines_with Overstated J start ledger errors)

  -- the list after all lines, where no error breaks a rule
  pub kept_whole : (good : List Line) → checked_lines item J start ledger (parts Size errors) ≡ accepted good →
      kept_of item J start ledger errors amounts ≡ kept_from (lines_with Overstated J start ledger errors) 0 amounts
  unfolding kept_of checked_lines
  kept_whole good e =
      let sizes : List Line = lines_with Size J start ledger errors in
      let overs : List Line = lines_with Overstated J start ledger errors in
      let all : passed item sizes ≡ length sizes = passed_all item sizes (checked_same item sizes good e) in
      let whole : take (passed item sizes) overs ≡ overs =
      take_all (passed item sizes) overs (omega (arith, all, lines_length J start ledger (parts Size errors), lines_length J start ledger (parts Overstated errors))) in
      ap (λ (ls : List Line). kept_from ls 0 amounts) whole

  pub kept_amounts : (good : List Line) → checked_lines item J start ledger (parts Size errors) ≡ accepted good → length own ≤ length amounts →
      take (length own) (kept_of item J start ledger errors amounts) ≡ sort_down own
  kept_amounts good e room =
      ap (take (length own)) (kept_whole good e)
      ∙ rw zero-add at (kept_front (lines_with Overstated J start ledger errors) 0 amounts (omega arith)) ∙ sym (sort_is own)
