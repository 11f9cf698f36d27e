-- The entries of a stratum, by their places in the whole list that it is cut from. Assumes nothing.
use mathlib.Core.Path.{◌≡◌, refl, ap, ◌∙◌, subst₂, sym}
use mathlib.Core.List.{List, [], ◌∷◌}
use mathlib.Core.Logic.{⊎_elim}
use Prim.Native.Nat.{ℕ, zero, suc, ◌+◌, ◌≤◌, ◌<◌, zero-le}
use native.Mathlib.Nat.{le_trans}
use native.Mathlib.Omega.{arith}
use lib.ListN.{length, get_or, take, drop, length-take, length-drop, get_or-eq_default}
use lib.Seq.{get_or-take, get_or-drop}
use Rattle.terms.specs.Numbers.{sum}
use Rattle.terms.proofs.Tests.{le_or_lt}
use Rattle.strata.specs.Strata.{parts_of}

module _ {A : Type 0} (none : A) where
  -- an entry is that of the whole, as far from the stratum's first line
  pub entry_at : (counts : List ℕ) (l : List A) (h i : ℕ) → i < get_or counts h 0 → get_or (get_or (parts_of counts l) h []) i none ≡ get_or l (sum (take h counts) + i) none
  unfolding parts_of
  entry_at [] l h i inside = absurd (omega arith)
  entry_at (count ∷ counts) l zero i inside = let here : i ≡ 0 + i = omega arith in get_or-take count l i none inside ∙ ap (λ (k : ℕ). get_or l k none) here
  entry_at (count ∷ counts) l (suc h) i inside =
      let on : count + (sum (take h counts) + i) ≡ count + sum (take h counts) + i = omega arith in
      entry_at counts (drop count l) h i inside ∙ get_or-drop count l (sum (take h counts) + i) none ∙ ap (λ (k : ℕ). get_or l k none) on

  -- there are as many as it counts, or fewer where the list ends before
  pub entries_few : (counts : List ℕ) (l : List A) (h : ℕ) → length (get_or (parts_of counts l) h []) ≤ get_or counts h 0
  unfolding parts_of
  entries_few [] l h = zero-le
  entries_few (count ∷ counts) l zero = omega (arith, length-take count l)
  entries_few (count ∷ counts) l (suc h) = entries_few counts (drop count l) h

  entry_past : (counts : List ℕ) (l : List A) (h i : ℕ) → get_or counts h 0 ≤ i → get_or (get_or (parts_of counts l) h []) i none ≡ none
  entry_past counts l h i past = get_or-eq_default (get_or (parts_of counts l) h []) none (le_trans (entries_few counts l h) past)

-- two lists that are cut alike
module _ {A B : Type 0} (none : A) (no : B) (counts : List ℕ) (l : List A) (m : List B) where
  -- what holds of their entries in each place holds of their strata's
  pub entries_both : (R : A → B → Type 0) → R none no → ((i : ℕ) → R (get_or l i none) (get_or m i no)) → (h i : ℕ) → R (get_or (get_or (parts_of counts l) h []) i none) (get_or (get_or (parts_of counts m) h []) i no)
  entries_both R past each h i =
      ⊎_elim (λ (p : get_or counts h 0 ≤ i). subst₂ R (sym (entry_past none counts l h i p)) (sym (entry_past no counts m h i p)) past)
      (λ (p : i < get_or counts h 0). subst₂ R (sym (entry_at none counts l h i p)) (sym (entry_at no counts m h i p)) (each (sum (take h counts) + i))) (le_or_lt (get_or counts h 0) i)

-- as long as each other, in each stratum
pub parts_long : {A B : Type 0} (counts : List ℕ) (l : List A) (m : List B) → length l ≡ length m → (h : ℕ) → length (get_or (parts_of counts l) h []) ≡ length (get_or (parts_of counts m) h [])
unfolding parts_of
parts_long [] l m same h = refl
parts_long (count ∷ counts) l m same zero = omega (arith, length-take count l, length-take count m)
parts_long (count ∷ counts) l m same (suc h) = parts_long counts (drop count l) (drop count m) (omega (arith, length-drop count l, length-drop count m)) h
