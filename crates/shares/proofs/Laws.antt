-- The laws of the shares, for all book values and every n that is enough for the strata with value. Assumes nothing.
use mathlib.Core.Path.{◌≡◌, sym, ap, ◌∙◌}
use mathlib.Core.List.{List, [], ◌∷◌}
use mathlib.Core.Logic.{◌⊎◌, inl, inr, ⊎_elim}
use Prim.Native.Nat.{ℕ, ◌+◌, ◌*◌, ◌-◌, ◌/◌, ◌%◌, ◌≤◌, ◌<◌}
use native.Mathlib.Nat.{mod-lt, div-add-mod'}
use native.Mathlib.Omega.{arith}
use lib.ListN.{length, get_or, length-map}
use Rattle.terms.specs.Numbers.{sum}
use Rattle.terms.proofs.Tests.{le_or_lt}
use Rattle.shares.specs.Shares.{with_value, whole_part, remainder_of, draws_before, remainders_of, draws_of, leftover_of, shares_of}
use Rattle.shares.proofs.Largest.{first_some}
use Rattle.shares.proofs.Adding.{none_before, none_remains, draws_at, remainders_at, leftover_is, few_left}
use Rattle.shares.proofs.Giving.{give_length, give_adds, Beside, Fair, give_fair}

some_stratum : (books : List ℕ) → 0 < sum books → 0 < length books
some_stratum [] h = h
some_stratum (book ∷ books) h = omega arith

module _ (books : List ℕ) (n : ℕ) where
  -- what remains of n once each stratum with value has one
  abbrev pub rest_of : ℕ
  rest_of = n - with_value books

  -- a stratum's book value and its draws
  abbrev pub book_at : ℕ → ℕ
  book_at h = get_or books h 0

  abbrev pub share_at : ℕ → ℕ
  share_at h = get_or (shares_of books n) h 0

  -- the whole part and the remainder of rest × book / total
  abbrev pub whole_at : ℕ → ℕ
  whole_at h = (n - with_value books) * get_or books h 0 / sum books

  abbrev pub remainder_at : ℕ → ℕ
  remainder_at h = (n - with_value books) * get_or books h 0 % sum books

  remainder_at_lem : (h : ℕ) → get_or (remainders_of books n) h 0 ≡ remainder_at h
  unfolding remainder_of
  remainder_at_lem h = remainders_at books n h

  -- a stratum without value, and one with
  no_remainder_at : (h : ℕ) → book_at h ≡ 0 → get_or (remainders_of books n) h 0 ≡ 0
  no_remainder_at h e = remainders_at books n h ∙ ap (remainder_of rest_of (sum books)) e ∙ none_remains rest_of (sum books)

  no_draws_at : (h : ℕ) → book_at h ≡ 0 → get_or (draws_of books n) h 0 ≡ 0
  no_draws_at h e = draws_at books n h ∙ ap (draws_before rest_of (sum books)) e ∙ none_before rest_of (sum books)

  some_draws_at : (h : ℕ) → 0 < book_at h → get_or (draws_of books n) h 0 ≡ 1 + whole_at h
  unfolding draws_before whole_part
  some_draws_at h some = draws_at books n h ∙ ap (λ (one : ℕ). one + whole_at h) (first_some (book_at h) (λ z. omega arith))

  draws_many : length (draws_of books n) ≡ length books
  unfolding draws_of
  draws_many = length-map books (draws_before rest_of (sum books))

  remainders_many : length (remainders_of books n) ≡ length books
  unfolding remainders_of
  remainders_many = length-map books (remainder_of rest_of (sum books))

  -- one share a stratum
  pub as_many : length (shares_of books n) ≡ length books
  unfolding shares_of
  as_many = give_length (leftover_of books n) (remainders_of books n) (draws_of books n) ∙ draws_many

  module _ (some : 0 < sum books) (enough : with_value books ≤ n) where
    pub beside : Beside (remainders_of books n) (draws_of books n)
    beside = record { same = remainders_many ∙ sym draws_many; some = omega (arith, remainders_many, some_stratum books some) }

    -- the shares add to n
    pub shares_add : sum (shares_of books n) ≡ n
    unfolding shares_of
    shares_add = give_adds (leftover_of books n) (remainders_of books n) (draws_of books n) beside ∙ leftover_is books n some enough

    fair : Fair (remainders_of books n) (draws_of books n) (shares_of books n)
    unfolding shares_of
    fair = give_fair (leftover_of books n) (remainders_of books n) (draws_of books n) beside (few_left books n some enough)

    -- a stratum with value has one and its whole part, or one more where something remains
    one_or_more : (h : ℕ) → 0 < book_at h → (share_at h ≡ 1 + whole_at h) ⊎ ((share_at h ≡ 1 + whole_at h + 1) × (0 < remainder_at h))
    one_or_more h value =
        ⊎_elim (λ e. inl (e ∙ some_draws_at h value)) (λ w. inr (w.0 ∙ ap (λ (d : ℕ). d + 1) (some_draws_at h value), omega (arith, w.1, remainder_at_lem h)))
        (fair.once h)

    -- so at least one; one without value has none
    pub one_at_least : (h : ℕ) → 0 < book_at h → 1 ≤ share_at h
    one_at_least h value = ⊎_elim (λ e. omega arith) (λ w. omega arith) (one_or_more h value)

    pub none_without : (h : ℕ) → book_at h ≡ 0 → share_at h ≡ 0
    none_without h e = ⊎_elim (λ s. s ∙ no_draws_at h e) (λ w. absurd (omega (arith, w.1, no_remainder_at h e))) (fair.once h)

    -- its draws less one are the whole part of rest × book / total, or one more
    pub whole_or_one_more : (h : ℕ) → 0 < book_at h → (share_at h - 1 ≡ whole_at h) ⊎ (share_at h - 1 ≡ whole_at h + 1)
    whole_or_one_more h value = ⊎_elim (λ e. inl (omega arith)) (λ w. inr (omega arith)) (one_or_more h value)

    -- so they are within one of the exact share, rest × book / total: less than one above it and less than one below, each times the total
    pub within_one : (h : ℕ) → 0 < book_at h →
        ((share_at h - 1) * sum books < rest_of * book_at h + sum books) × (rest_of * book_at h < (share_at h - 1) * sum books + sum books)
    within_one h value =
        let exact = div-add-mod' (rest_of * book_at h) (sum books) in
        let small = mod-lt (rest_of * book_at h) some in
        let in_totals : (draws : ℕ) → share_at h - 1 ≡ draws → (share_at h - 1) * sum books ≡ draws * sum books = λ draws e. ap (λ (d : ℕ). d * sum books) e in
        ⊎_elim (λ e. let t = in_totals (whole_at h) (omega arith) in (omega arith, omega arith))
        (λ w. let t = in_totals (whole_at h + 1) (omega arith) in let o = w.1 in (omega arith, omega arith)) (one_or_more h value)

    -- where h has a leftover draw, and g, with value, has none, h has the larger remainder, or the same and is the lower stratum
    pub ranking : (h g : ℕ) → 0 < book_at g → share_at h ≡ 1 + whole_at h + 1 → share_at g ≡ 1 + whole_at g → (remainder_at g < remainder_at h) ⊎ ((remainder_at g ≡ remainder_at h) × (h < g))
    ranking h g value got none =
        let own : 0 < book_at h = ⊎_elim (λ z. absurd (omega (arith, none_without h (omega arith)))) (λ v. v) (le_or_lt (book_at h) 0) in
        let u = remainder_at_lem h in
        let v = remainder_at_lem g in
        ⊎_elim (λ l. inl (omega arith)) (λ e. inr (omega arith, e.1))
        (fair.ranked h g (omega (arith, some_draws_at h own)) (omega (arith, some_draws_at g value)))

-- one stratum has all draws
only_entry : (l : List ℕ) → length l ≡ 1 → l ≡ sum l ∷ []
only_entry [] long = absurd (omega arith)
only_entry (v ∷ []) long = ap (λ (k : ℕ). k ∷ []) (omega arith)
only_entry (v ∷ w ∷ l) long = absurd (omega arith)

pub all_to_one : (book n : ℕ) → 0 < book → 0 < n → shares_of (book ∷ []) n ≡ n ∷ []
all_to_one book n value some =
    let l = book ∷ [] in
    only_entry (shares_of l n) (as_many l n) ∙ ap (λ (k : ℕ). k ∷ []) (shares_add l n (omega arith) (omega (arith, first_some book (λ z. omega arith))))
