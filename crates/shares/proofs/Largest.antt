-- The largest remainder and the stratum that has it, how many remainders are above 0, and lists with one entry changed. Assumes nothing.
use mathlib.Core.Path.{◌≡◌, refl, sym, ◌∙◌}
use mathlib.Core.List.{List, [], ◌∷◌}
use mathlib.Core.Logic.{◌⊎◌, inl, inr, ⊎_elim}
use Prim.Native.Nat.{ℕ, zero, suc, ◌+◌, ◌≤◌, ◌<◌, max}
use native.Mathlib.Nat.{eq-or-lt_of_le}
use native.Mathlib.Omega.{arith}
use lib.ListN.{length, get_or, set}
use lib.Dec.{leb}
use Rattle.std.proofs.Common.{count_by, nat_lt}
use Rattle.std.specs.List.{filter}
use Rattle.std.proofs.lemmas.List.Sums.{length-filter}
use borrow.Author.Tests.{leb-true, leb-false, le-leb}
use Rattle.terms.specs.Numbers.{sum}
use Rattle.terms.proofs.Tests.{by_test, le_or_lt}
use Rattle.shares.specs.Shares.{first_draw, with_value, largest, largest_at}

pub first_most : (book : ℕ) → first_draw book ≤ 1
first_most zero = omega arith
first_most (suc cents) = omega arith

pub first_some : (book : ℕ) → (book ≡ 0 → ⊥) → first_draw book ≡ 1
first_some zero f = absurd (f refl)
first_some (suc cents) f = refl

-- as many as are above 0
valued_of : (books : List ℕ) → length (filter (λ (book : ℕ). nat_lt 0 book) books) ≡ with_value books
valued_of [] = refl
valued_of (zero ∷ books) = omega (arith, valued_of books)
valued_of (suc cents ∷ books) = simp (le-leb 1 (suc cents) (omega arith)) (omega (arith, valued_of books))

pub valued : (books : List ℕ) → count_by (λ (book : ℕ). nat_lt 0 book) books ≡ with_value books
valued books = sym (length-filter (λ (book : ℕ). nat_lt 0 book) books) ∙ valued_of books

-- a sum above 0 has a number above 0
pub some_with : (l : List ℕ) → 0 < sum l → 0 < with_value l
some_with [] h = absurd (omega arith)
some_with (zero ∷ l) h = omega (arith, some_with l (omega arith))
some_with (suc v ∷ l) h = omega arith

-- no remainder is above the largest
pub none_larger : (rs : List ℕ) (g : ℕ) → get_or rs g 0 ≤ largest rs
none_larger [] g = omega arith
none_larger (r ∷ rs) zero = omega arith
none_larger (r ∷ rs) (suc g) = omega (arith, none_larger rs g)

pub some_largest : (rs : List ℕ) → 0 < with_value rs → 0 < largest rs
some_largest [] h = absurd (omega arith)
some_largest (zero ∷ rs) h = omega (arith, some_largest rs (omega arith))
some_largest (suc r ∷ rs) h = omega arith

-- its stratum is one of them, has it, and comes before every other that has it
pub at_inside : (rs : List ℕ) → 0 < length rs → largest_at rs < length rs
unfolding largest_at
at_inside [] h = absurd (omega arith)
at_inside (r ∷ []) h = by_test (λ k. k < 1) (leb 0 r) (λ t. omega arith) (λ f. absurd (omega (arith, leb-false 0 r f)))
at_inside (r ∷ s ∷ rs) h =
    by_test (λ k. k < suc (length (s ∷ rs))) (leb (largest (s ∷ rs)) r) (λ t. omega arith) (λ f. omega (arith, at_inside (s ∷ rs) (omega arith)))

pub at_largest : (rs : List ℕ) → get_or rs (largest_at rs) 0 ≡ largest rs
unfolding largest_at
at_largest [] = refl
at_largest (r ∷ rs) =
    by_test (λ k. get_or (r ∷ rs) k 0 ≡ max r (largest rs)) (leb (largest rs) r) (λ t. omega (arith, leb-true (largest rs) r t))
    (λ f. at_largest rs ∙ omega (arith, leb-false (largest rs) r f))

lower_below : (rs : List ℕ) (g : ℕ) → g < largest_at rs → get_or rs g 0 < largest rs
unfolding largest_at
lower_below [] g h = absurd (omega arith)
lower_below (r ∷ rs) zero h =
    by_test (λ k. 0 < k → r < max r (largest rs)) (leb (largest rs) r) (λ t z. absurd (omega arith)) (λ f z. omega (arith, leb-false (largest rs) r f)) h
lower_below (r ∷ rs) (suc g) h =
    by_test (λ k. suc g < k → get_or rs g 0 < max r (largest rs)) (leb (largest rs) r) (λ t z. absurd (omega arith)) (λ f z. omega (arith, lower_below rs g (omega arith))) h

-- h ranks before g: by the larger remainder, and as the lower stratum on a tie
abbrev pub Outranks : List ℕ → ℕ → ℕ → Type 0
Outranks rs h g = (get_or rs g 0 < get_or rs h 0) ⊎ ((get_or rs g 0 ≡ get_or rs h 0) × (h < g))

pub at_outranks : (rs : List ℕ) (g : ℕ) → (g ≡ largest_at rs → ⊥) → Outranks rs (largest_at rs) g
at_outranks rs g other =
    let most = at_largest rs in
    ⊎_elim
    (λ (h : largest_at rs ≤ g). ⊎_elim (λ e. inr (e, omega arith)) (λ l. inl l) (eq-or-lt_of_le (omega (arith, none_larger rs g))))
    (λ (l : g < largest_at rs). inl (omega (arith, lower_below rs g l)))
    (le_or_lt (largest_at rs) g)

-- one remainder set to 0, and one number raised by 1
pub one_fewer : (rs : List ℕ) (h : ℕ) → 0 < get_or rs h 0 → with_value rs ≡ with_value (set rs h 0) + 1
one_fewer [] h some = absurd (omega arith)
one_fewer (zero ∷ rs) zero some = absurd (omega arith)
one_fewer (suc r ∷ rs) zero some = omega arith
one_fewer (r ∷ rs) (suc h) some = omega (arith, one_fewer rs h some)

pub one_added : (ds : List ℕ) (h : ℕ) → h < length ds → sum (set ds h (get_or ds h 0 + 1)) ≡ sum ds + 1
one_added [] h inside = absurd (omega arith)
one_added (d ∷ ds) zero inside = omega arith
one_added (d ∷ ds) (suc h) inside = omega (arith, one_added ds h (omega arith))
