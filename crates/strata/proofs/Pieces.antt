-- The strata of a ledger, as a loop over the line counts meets them. Assumes nothing.
use mathlib.Core.Path.{◌≡◌, refl, sym, ap, ◌∙◌}
use mathlib.Core.List.{List, [], ◌∷◌}
use Prim.Native.Nat.{ℕ, ◌+◌, ◌-◌, ◌≤◌, ◌<◌}
use native.Mathlib.Numerals.{add-one}
use native.Mathlib.Omega.{arith}
use lib.ListN.{length, get_or, take, drop, length-drop, drop_of_length-le, take-append-drop}
use lib.Seq.{drop-cons, drop-drop, get_or-drop, length-take-le}
use Rattle.terms.specs.Numbers.{sum}
use Rattle.terms.proofs.Sums.{sum_append}
use Rattle.strata.specs.Strata.{parts_of}

pub sum_on : (l : List ℕ) (i : ℕ) → i < length l → sum (drop i l) ≡ get_or l i 0 + sum (drop (i + 1) l)
sum_on l i inside = rw (drop-cons l i 0 inside, add-one)

pub sum_past : (l : List ℕ) (i : ℕ) → length l ≤ i → sum (drop i l) ≡ 0
sum_past l i h = ap sum (drop_of_length-le l h)

-- a part is within the whole
pub part_sum : (k at : ℕ) (l : List ℕ) → sum (take k (drop at l)) ≤ sum l
part_sum k at l =
    omega (arith, sum_append (take k (drop at l)) (drop k (drop at l)), ap sum (take-append-drop k (drop at l)), sum_append (take at l) (drop at l), ap sum (take-append-drop at l))

-- the length of a part from its two ends
pub span : (at k : ℕ) → at + k - at ≡ k
span at k = omega arith

-- where a loop stands: the strata before h end at the line `at`, and those to come reach the ledger's end
pub record Place (ledger counts : List ℕ) (at h : ℕ) : Type 0 where
  pub within : h ≤ length counts
  pub rest : at + sum (drop h counts) ≡ length ledger

pub place_none : {ledger counts : List ℕ} → sum counts ≡ length ledger → Place ledger counts 0 0
place_none e = record { within = omega arith; rest = omega arith }

module _ {ledger counts : List ℕ} {at h : ℕ} (place : Place ledger counts at h) (inside : h < length counts) where
  pub reach : at + get_or counts h 0 ≤ length ledger
  reach = let r = place.rest in omega (arith, sum_on counts h inside)

  pub place_next : Place ledger counts (at + get_or counts h 0) (h + 1)
  place_next = let r = place.rest in record { within = omega arith; rest = omega (arith, sum_on counts h inside) }

-- the entry at hand
pub here_at : {A : Type 0} (h : ℕ) (l : List A) (none : A) → get_or (drop h l) 0 none ≡ get_or l h none
here_at h l none = let here : h + 0 ≡ h = omega arith in get_or-drop h l 0 none ∙ ap (λ (k : ℕ). get_or l k none) here

-- of any list that is cut by the counts: the stratum at hand and those to come, and none past the last
module _ {A : Type 0} (l : List A) (counts : List ℕ) (at h : ℕ) where
  pub parts_on : h < length counts →
      parts_of (drop h counts) (drop at l) ≡ take (get_or counts h 0) (drop at l) ∷ parts_of (drop (h + 1) counts) (drop (at + get_or counts h 0) l)
  unfolding parts_of
  parts_on inside = rw (drop-cons counts h 0 inside, add-one, sym (drop-drop (get_or counts h 0) at l)) refl

  pub parts_past : length counts ≤ h → parts_of (drop h counts) (drop at l) ≡ []
  unfolding parts_of
  parts_past h = rw (drop_of_length-le counts h)

  -- the stratum at hand by its two ends, as code lends it, and the strata to come
  abbrev pub part_at : List A
  part_at = take (at + get_or counts h 0 - at) (drop at l)

  abbrev pub to_come : List (List A)
  to_come = parts_of (drop h counts) (drop at l)

  abbrev pub later_on : List (List A)
  later_on = parts_of (drop (h + 1) counts) (drop (at + get_or counts h 0) l)

  pub come_on : h < length counts → to_come ≡ part_at ∷ later_on
  come_on inside = parts_on inside ∙ ap (λ (k : ℕ). take k (drop at l) ∷ later_on) (sym (span at (get_or counts h 0)))

  -- its length, where the list reaches as far as the ledger
  pub part_long : at + get_or counts h 0 ≤ length l → length part_at ≡ get_or counts h 0
  part_long far = length-take-le (at + get_or counts h 0 - at) (drop at l) (omega (arith, length-drop at l)) ∙ span at (get_or counts h 0)
