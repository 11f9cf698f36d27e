-- The loops that find the largest remainder and give out the leftover draws: what each knows where it stands, at its beginning, after a turn
-- and at its end. Assumes nothing.
use mathlib.Core.Path.{◌≡◌, refl, sym, ap, ◌∙◌}
use mathlib.Core.List.{List, [], ◌∷◌}
use Prim.Native.Nat.{ℕ, zero, suc, ◌+◌, ◌-◌, ◌^◌, ◌≤◌, ◌<◌, max}
use mathlib.Core.Logic.{⊎_elim}
use lib.Dec.{leb}
use Rattle.terms.proofs.Tests.{le_or_lt}
use native.Mathlib.Numerals.{add-one}
use native.Mathlib.Omega.{arith}
use lib.ListN.{length, get_or, drop, set, length-set, drop_of_length-le}
use lib.Seq.{drop-cons}
use borrow.Author.Tests.{le-leb, lt-leb}
use mir.Syntax.{w64}
use mir.Val.{Fits}
use Rattle.terms.specs.Numbers.{pick, sum}
use Rattle.terms.proofs.Sums.{one_of_sum}
use Rattle.shares.specs.Shares.{largest, largest_at, give_out}
use Rattle.shares.proofs.Largest.{at_inside, one_added}
use Rattle.shares.proofs.Giving.{raised}

-- the strata from h on
pub strata_on : (l : List ℕ) (h : ℕ) → h < length l → drop h l ≡ get_or l h 0 ∷ drop (h + 1) l
strata_on l h inside = drop-cons l h 0 inside ∙ ap (λ (k : ℕ). get_or l h 0 ∷ drop k l) (sym (add-one h))

pub none_left : (l : List ℕ) (h : ℕ) → length l ≤ h → drop h l ≡ []
none_left l h end = drop_of_length-le l end

-- `largest_at`: the largest of the remainders before h and the stratum that has it, beside those from h on, give the whole's
pub record Looking (remainders : List ℕ) (stratum most h : ℕ) : Type 0 where
  pub standing : pick (leb (largest (drop h remainders)) most) stratum (h + largest_at (drop h remainders)) ≡ largest_at remainders

-- without a remainder above 0 it is the first
first_of_none : (rs : List ℕ) → largest rs ≤ 0 → largest_at rs ≡ 0
unfolding largest_at
first_of_none [] h = refl
first_of_none (r ∷ rs) h = simp (le-leb (largest rs) r (omega arith)) refl

pub looking_none : (remainders : List ℕ) → Looking remainders 0 0 0
looking_none remainders =
    record { standing = ⊎_elim (λ (h : largest remainders ≤ 0). simp (le-leb _ _ h) (sym (first_of_none remainders h))) (λ (l : 0 < largest remainders). simp (lt-leb _ _ l) (omega arith)) (le_or_lt (largest remainders) 0) }

-- one remainder r more, after which the largest is l, a strata on: it takes the place, or it does not
one_takes : (r l a most stratum h : ℕ) → most < r → pick (leb l r) h (h + 1 + a) ≡ pick (leb (max r l) most) stratum (h + pick (leb l r) 0 (suc a))
one_takes r l a most stratum h more =
    ⊎_elim
    (λ (k : l ≤ r). simp (le-leb l r k, lt-leb (max r l) most (omega arith)) (omega arith))
    (λ (k : r < l). simp (lt-leb l r k, lt-leb (max r l) most (omega arith)) (omega arith))
    (le_or_lt l r)

one_keeps : (r l a most stratum h : ℕ) → r ≤ most → pick (leb l most) stratum (h + 1 + a) ≡ pick (leb (max r l) most) stratum (h + pick (leb l r) 0 (suc a))
one_keeps r l a most stratum h more =
    ⊎_elim
    (λ (k : l ≤ most). simp (le-leb l most k, le-leb (max r l) most (omega arith)) refl)
    (λ (k : most < l). simp (lt-leb l most k, lt-leb (max r l) most (omega arith), lt-leb l r (omega arith)) (omega arith))
    (le_or_lt l most)

module _ {remainders : List ℕ} {stratum most h : ℕ} (seen : Looking remainders stratum most h) where
  pub looking_takes : h < length remainders → most < get_or remainders h 0 → Looking remainders h (get_or remainders h 0) (h + 1)
  unfolding largest_at
  looking_takes more l =
      let now = rw (strata_on remainders h more) at seen.standing in
      record { standing = one_takes (get_or remainders h 0) (largest (drop (h + 1) remainders)) (largest_at (drop (h + 1) remainders)) most stratum h l ∙ now }

  pub looking_keeps : h < length remainders → get_or remainders h 0 ≤ most → Looking remainders stratum most (h + 1)
  unfolding largest_at
  looking_keeps more l =
      let now = rw (strata_on remainders h more) at seen.standing in
      record { standing = one_keeps (get_or remainders h 0) (largest (drop (h + 1) remainders)) (largest_at (drop (h + 1) remainders)) most stratum h l ∙ now }

  pub looking_end : length remainders ≤ h → stratum ≡ largest_at remainders
  unfolding largest_at
  looking_end end = let now = rw (none_left remainders h end) at seen.standing in simp (le-leb 0 most (omega arith)) at now

-- `give_out`: giving out what is left from here gives what giving out the whole does
pub record Handing (before from : List ℕ) (leftover : ℕ) (draws remainders : List ℕ) (left : ℕ) : Type 0 where
  pub long : length draws ≡ 32
  pub beside : length remainders ≡ 32
  pub fits : sum draws + left < 2 ^ 64
  pub same : give_out left remainders draws ≡ give_out leftover from before

give_next : (left : ℕ) (remainders draws : List ℕ) → 0 < left →
    give_out (left - 1) (set remainders (largest_at remainders) 0) (raised draws (largest_at remainders)) ≡ give_out left remainders draws
unfolding give_out
give_next zero remainders draws h = absurd (omega arith)
give_next (suc k) remainders draws h =
    let fewer : suc k - 1 ≡ k = omega arith in
    ap (λ (m : ℕ). give_out m (set remainders (largest_at remainders) 0) (raised draws (largest_at remainders))) fewer

module _ {before from : List ℕ} {leftover : ℕ} {draws remainders : List ℕ} {left : ℕ} (at : Handing before from leftover draws remainders left) where
  module _ {stratum : ℕ} (e : stratum ≡ largest_at remainders) where
    pub handed_inside : stratum < 32
    handed_inside = let l = at.beside in omega (arith, at_inside remainders (omega arith))

    pub handed_fits : 0 < left → Fits w64 (get_or draws stratum 0 + 1)
    handed_fits some = record { fits = omega (arith, at.fits, one_of_sum draws stratum) }

    pub handing_next : 0 < left → Handing before from leftover (raised draws stratum) (set remainders stratum 0) (left - 1)
    handing_next some =
        let l = at.long in
        record {
          long = length-set draws stratum (get_or draws stratum 0 + 1) ∙ at.long;
          beside = length-set remainders stratum 0 ∙ at.beside;
          fits = omega (arith, at.fits, one_added draws stratum (omega (arith, handed_inside)));
          same = (λ i. give_out (left - 1) (set remainders (e i) 0) (raised draws (e i))) ∙ give_next left remainders draws some ∙ at.same;
        }

  pub handing_end : left ≤ 0 → draws ≡ give_out leftover from before
  unfolding give_out
  handing_end end =
      let none : 0 ≡ left = omega arith in
      ap (λ (k : ℕ). give_out k remainders draws) none ∙ at.same
