-- All strata's draws and remainders, added: the draws before any leftover draw are no more than n, and there is a remainder above 0 for each leftover draw.
-- Assumes nothing.
use mathlib.Core.Path.{◌≡◌, sym, ap, ◌∙◌}
use mathlib.Core.List.{List, [], ◌∷◌, map}
use Prim.Native.Nat.{ℕ, zero, suc, ◌+◌, ◌*◌, ◌-◌, ◌/◌, ◌%◌, ◌^◌, ◌≤◌, ◌<◌}
use native.Mathlib.Nat.{mod-lt, div-add-mod', add-mul, zero-div, zero-mod, mul-zero, mul-le-mul_left, mul-le-mul_right, le_of_mul-le-mul_right, le_of_suc-le-suc, lt_of_not-le, div-le_of_le-mul}
use native.Mathlib.Omega.{arith}
use lib.ListN.{get_or, get_or-map}
use mir.Syntax.{w64}
use mir.Val.{Fits}
use Rattle.terms.specs.Numbers.{sum}
use Rattle.shares.specs.Shares.{first_draw, with_value, whole_part, remainder_of, draws_before, remainders_of, draws_of, leftover_of}

module _ (rest total : ℕ) where
  -- a stratum's portion as code makes it: its draws fit, because the whole part is no more than the rest
  module _ (book : ℕ) {one whole : ℕ} (w : whole ≡ rest * book / total) where
    pub portion_fits : book ≤ total → rest + 1 < 2 ^ 64 → one ≤ 1 → Fits w64 (one + whole)
    portion_fits h room small =
        let most : rest * book / total ≤ rest = div-le_of_le-mul total (omega (arith, mul-le-mul_left rest h)) in
        record { fits = omega arith }

    pub portion_is : {remainder : ℕ} → one ≡ first_draw book → remainder ≡ rest * book % total → (one + whole ≡ draws_before rest total book) × (remainder ≡ remainder_of rest total book)
    unfolding draws_before whole_part remainder_of
    portion_is e r = ((λ i. e i + w i), r)

  -- without value there are no draws, and nothing remains
  pub none_before : draws_before rest total 0 ≡ 0
  unfolding draws_before whole_part
  none_before = rw (mul-zero rest, zero-div total)

  pub none_remains : remainder_of rest total 0 ≡ 0
  unfolding remainder_of
  none_remains = rw (mul-zero rest, zero-mod total)

  -- a stratum's draws and its remainder, in parts of the total
  one_stratum : (book : ℕ) → draws_before rest total book * total + remainder_of rest total book ≡ first_draw book * total + rest * book
  unfolding draws_before whole_part remainder_of
  one_stratum book = omega (arith, add-mul (first_draw book) (rest * book / total) total, div-add-mod' (rest * book) total)

  all_strata : (books : List ℕ) →
      sum (map (draws_before rest total) books) * total + sum (map (remainder_of rest total) books) ≡ with_value books * total + rest * sum books
  all_strata [] = omega arith
  all_strata (book ∷ books) = omega (arith, one_stratum book, all_strata books)

  module _ (some : 0 < total) where
    below_total : (book : ℕ) → remainder_of rest total book < total
    unfolding remainder_of
    below_total book = mod-lt (rest * book) some

    -- remainders are below the total, those that are above 0 add to less than as many totals
    remainder_counts : (r : ℕ) → r < total → r + first_draw r ≤ first_draw r * total
    remainder_counts zero h = omega arith
    remainder_counts (suc r) h = omega arith

    remainders_below : (books : List ℕ) →
        sum (map (remainder_of rest total) books) + with_value (map (remainder_of rest total) books) ≤ with_value (map (remainder_of rest total) books) * total
    remainders_below [] = omega arith
    remainders_below (book ∷ books) = omega (arith, remainders_below books, remainder_counts (remainder_of rest total book) (below_total book))

-- an entry of a list whose function gives 0 for 0, past the end too
entry_of : (f : ℕ → ℕ) → f 0 ≡ 0 → (l : List ℕ) (h : ℕ) → get_or (map f l) h 0 ≡ f (get_or l h 0)
entry_of f none l h = ap (λ (d : ℕ). get_or (map f l) h d) (sym none) ∙ get_or-map f l h 0

-- the entries of all strata's draws and remainders
module _ (books : List ℕ) (n h : ℕ) where
  pub draws_at : get_or (draws_of books n) h 0 ≡ draws_before (n - with_value books) (sum books) (get_or books h 0)
  unfolding draws_of
  draws_at = entry_of (draws_before (n - with_value books) (sum books)) (none_before (n - with_value books) (sum books)) books h

  pub remainders_at : get_or (remainders_of books n) h 0 ≡ remainder_of (n - with_value books) (sum books) (get_or books h 0)
  unfolding remainders_of
  remainders_at = entry_of (remainder_of (n - with_value books) (sum books)) (none_remains (n - with_value books) (sum books)) books h

module _ (books : List ℕ) (n : ℕ) (some : 0 < sum books) (enough : with_value books ≤ n) where
  in_totals : sum (draws_of books n) * sum books + sum (remainders_of books n) ≡ n * sum books
  unfolding draws_of remainders_of
  in_totals =
      let whole : with_value books + (n - with_value books) ≡ n = omega arith in
      all_strata (n - with_value books) (sum books) books ∙ sym (add-mul (with_value books) (n - with_value books) (sum books)) ∙ ap (λ (m : ℕ). m * sum books) whole

  pub draws_within : sum (draws_of books n) ≤ n
  draws_within = le_of_mul-le-mul_right {m = sum (draws_of books n)} {n = n} {k = sum books} (omega (arith, in_totals)) some

  pub leftover_is : sum (draws_of books n) + leftover_of books n ≡ n
  unfolding leftover_of
  leftover_is = omega (arith, draws_within)

  pub few_left : leftover_of books n ≤ with_value (remainders_of books n)
  unfolding remainders_of
  few_left =
      let below = remainders_below (n - with_value books) (sum books) some books in
      le_of_suc-le-suc (lt_of_not-le (λ l.
      let more : suc (with_value (remainders_of books n)) + sum (draws_of books n) ≤ n = omega (arith, leftover_is) in
      omega (arith, mul-le-mul_right (sum books) more, in_totals, below)))
