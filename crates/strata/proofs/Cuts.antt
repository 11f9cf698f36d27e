-- The strata of a list, as a loop that cuts one off after another meets them. Assumes nothing.
use mathlib.Core.Path.{◌≡◌, refl, sym, ap, ◌∙◌}
use mathlib.Core.List.{List, [], ◌∷◌}
use Prim.Native.Nat.{ℕ, ◌+◌, ◌≤◌, ◌<◌}
use native.Mathlib.Numerals.{add-one}
use native.Mathlib.Omega.{arith}
use lib.ListN.{length, get_or, take, drop, length-drop, drop_of_length-le, take-append-drop}
use lib.Seq.{drop-cons}
use Rattle.terms.specs.Numbers.{sum}
use Rattle.terms.proofs.Sums.{sum_append}
use Rattle.strata.specs.Strata.{parts_of}
use Rattle.strata.proofs.Pieces.{sum_on}

-- a part and what follows it
pub sum_parts : (k : ℕ) (l : List ℕ) → sum (take k l) + sum (drop k l) ≡ sum l
sum_parts k l = sym (sum_append (take k l) (drop k l)) ∙ ap sum (take-append-drop k l)

-- where a loop stands: the strata to come have the lines that are left
pub record Left {A : Type 0} (counts : List ℕ) (rest : List A) (h : ℕ) : Type 0 where
  pub within : h ≤ length counts
  pub reach : sum (drop h counts) ≡ length rest

module _ {A : Type 0} {counts : List ℕ} {rest : List A} where
  pub left_none : sum counts ≡ length rest → Left counts rest 0
  left_none e = record { within = omega arith; reach = e }

  module _ {h : ℕ} (left : Left counts rest h) where
    pub left_next : h < length counts → Left counts (drop (get_or counts h 0) rest) (h + 1)
    left_next inside = let r = left.reach in record { within = omega arith; reach = omega (arith, sum_on counts h inside, length-drop (get_or counts h 0) rest) }

-- of any list that is cut by the counts: the stratum at hand and those to come, and none past the last
module _ {A : Type 0} (counts : List ℕ) (rest : List A) (h : ℕ) where
  pub cut_on : h < length counts → parts_of (drop h counts) rest ≡ take (get_or counts h 0) rest ∷ parts_of (drop (h + 1) counts) (drop (get_or counts h 0) rest)
  unfolding parts_of
  cut_on inside = rw (drop-cons counts h 0 inside, add-one) refl

  pub cut_past : length counts ≤ h → parts_of (drop h counts) rest ≡ []
  unfolding parts_of
  cut_past past = rw (drop_of_length-le counts past)
