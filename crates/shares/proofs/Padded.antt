-- Strata without book value padded the last change no share: an array holds the shares of the strata, and 0 padded them. Assumes nothing.
use mathlib.Core.Path.{◌≡◌, refl, ap, ◌∙◌}
use mathlib.Core.List.{List, [], ◌∷◌, ◌++◌, map}
use mathlib.Core.Bool.{Bool, true, false}
use Prim.Native.Nat.{ℕ, zero, suc, ◌+◌, ◌-◌, ◌≤◌, ◌<◌, max}
use native.Mathlib.Omega.{arith}
use lib.ListN.{get_or, set, replicate}
use lib.Seq.{set-append_left}
use lib.Dec.{leb}
use borrow.Author.Tests.{leb-false}
use Rattle.terms.specs.Numbers.{pick, sum}
use Rattle.terms.proofs.Sums.{sum_append}
use Rattle.shares.specs.Shares.{first_draw, with_value, remainder_of, draws_before, largest, largest_at, give_out, remainders_of, draws_of, leftover_of, shares_of}
use Rattle.shares.proofs.Largest.{at_largest, some_largest, one_fewer}
use Rattle.shares.proofs.Adding.{none_before, none_remains, few_left}
use Rattle.shares.proofs.Giving.{raised, Beside, in_remainders, in_draws, beside_next}
use Rattle.shares.proofs.Laws.{beside}

-- zeros alone
map_zeros : (f : ℕ → ℕ) → f 0 ≡ 0 → (k : ℕ) → ◌≡◌ {A = List ℕ} (map f (replicate k 0)) (replicate k 0)
map_zeros f none zero = refl
map_zeros f none (suc k) = λ i. none i ∷ map_zeros f none k i

sum_zeros : (k : ℕ) → ◌≡◌ {A = ℕ} (sum (replicate k 0)) 0
sum_zeros zero = refl
sum_zeros (suc k) = omega (arith, sum_zeros k)

with_zeros : (k : ℕ) → ◌≡◌ {A = ℕ} (with_value (replicate k 0)) 0
with_zeros zero = refl
with_zeros (suc k) = omega (arith, with_zeros k)

largest_zeros : (k : ℕ) → ◌≡◌ {A = ℕ} (largest (replicate k 0)) 0
largest_zeros zero = refl
largest_zeros (suc k) = omega (arith, largest_zeros k)

zeros_at : (k h : ℕ) → ◌≡◌ {A = ℕ} (get_or (replicate k 0) h 0) 0
zeros_at zero h = refl
zeros_at (suc k) zero = refl
zeros_at (suc k) (suc h) = zeros_at k h

-- k strata without value padded the last
module _ (k : ℕ) where
  abbrev pub padded : List ℕ → List ℕ
  padded l = l ++ replicate k 0

  map_padded : (f : ℕ → ℕ) → f 0 ≡ 0 → (l : List ℕ) → map f (padded l) ≡ padded (map f l)
  map_padded f none [] = map_zeros f none k
  map_padded f none (v ∷ l) = ap (λ (m : List ℕ). f v ∷ m) (map_padded f none l)

  pub entry_padded : (l : List ℕ) (h : ℕ) → get_or (padded l) h 0 ≡ get_or l h 0
  entry_padded [] h = zeros_at k h
  entry_padded (v ∷ l) zero = refl
  entry_padded (v ∷ l) (suc h) = entry_padded l h

  pub sum_padded : (l : List ℕ) → sum (padded l) ≡ sum l
  sum_padded l = omega (arith, sum_append l (replicate k 0), sum_zeros k)

  pub with_padded : (l : List ℕ) → with_value (padded l) ≡ with_value l
  with_padded [] = with_zeros k
  with_padded (v ∷ l) = ap (λ (m : ℕ). first_draw v + m) (with_padded l)

  largest_padded : (l : List ℕ) → largest (padded l) ≡ largest l
  largest_padded [] = largest_zeros k
  largest_padded (r ∷ l) = ap (max r) (largest_padded l)

  at_padded : (l : List ℕ) → 0 < largest l → largest_at (padded l) ≡ largest_at l
  unfolding largest_at
  at_padded [] some = absurd (omega arith)
  at_padded (r ∷ l) some = ap (λ (m : ℕ). pick (leb m r) 0 (suc (largest_at (padded l)))) (largest_padded l) ∙ go (leb (largest l) r) refl (at_padded l)
    where
      go : (test : Bool) → leb (largest l) r ≡ test → (0 < largest l → largest_at (padded l) ≡ largest_at l) →
          pick test 0 (suc (largest_at (padded l))) ≡ pick test 0 (suc (largest_at l))
      go true e later = refl
      go false e later = ap suc (later (omega (arith, leb-false (largest l) r e)))

  give_padded : (m : ℕ) (rs ds : List ℕ) → Beside rs ds → m ≤ with_value rs → give_out m (padded rs) (padded ds) ≡ padded (give_out m rs ds)
  unfolding give_out
  give_padded zero rs ds by few = refl
  give_padded (suc m) rs ds by few =
      let h = largest_at rs in
      let some = some_largest rs (omega arith) in
      let e = at_padded rs some in
      (λ i. give_out m (set (padded rs) (e i) 0) (raised (padded ds) (e i)))
      ∙ (λ i. give_out m (set-append_left rs (replicate k 0) h 0 (in_remainders by) i) (set (padded ds) h (entry_padded ds h i + 1)))
      ∙ ap (give_out m (padded (set rs h 0))) (set-append_left ds (replicate k 0) h (get_or ds h 0 + 1) (in_draws by))
      ∙ give_padded m (set rs h 0) (raised ds h) (beside_next by) (omega (arith, one_fewer rs h (omega (arith, at_largest rs))))

  module _ (books : List ℕ) (n : ℕ) where
    draws_padded : draws_of (padded books) n ≡ padded (draws_of books n)
    unfolding draws_of
    draws_padded =
        (λ i. map (draws_before (n - with_padded books i) (sum_padded books i)) (padded books))
        ∙ map_padded (draws_before (n - with_value books) (sum books)) (none_before (n - with_value books) (sum books)) books

    remainders_padded : remainders_of (padded books) n ≡ padded (remainders_of books n)
    unfolding remainders_of
    remainders_padded =
        (λ i. map (remainder_of (n - with_padded books i) (sum_padded books i)) (padded books))
        ∙ map_padded (remainder_of (n - with_value books) (sum books)) (none_remains (n - with_value books) (sum books)) books

    leftover_padded : leftover_of (padded books) n ≡ leftover_of books n
    unfolding leftover_of
    leftover_padded = ap (λ (s : ℕ). n - s) (ap sum draws_padded ∙ sum_padded (draws_of books n))

    pub shares_padded : 0 < sum books → with_value books ≤ n → shares_of (padded books) n ≡ padded (shares_of books n)
    unfolding shares_of
    shares_padded some enough =
        (λ i. give_out (leftover_padded i) (remainders_padded i) (draws_padded i))
        ∙ give_padded (leftover_of books n) (remainders_of books n) (draws_of books n) (beside books n some enough) (few_left books n some enough)
