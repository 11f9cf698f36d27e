-- Each stratum with value is its own ledger: it is judged, its figures are those of its own split, and what the strata's figures add to. Assumes nothing.
use mathlib.Core.Path.{◌≡◌, refl, sym, ap, subst, ◌∙◌}
use mathlib.Core.Bool.{Bool}
use mathlib.Core.List.{List, [], ◌∷◌, map}
use Prim.Native.Nat.{ℕ, zero, suc, ◌+◌, ◌≤◌, ◌<◌, zero-le}
use native.Mathlib.Omega.{arith}
use borrow.Author.Tests.{eqb-true, eqb-false, eq-eqb, ne_eqb}
use lib.Dec.{eqb}
use lib.ListN.{length, get_or, take, drop, length-drop, length-take, length-map}
use Rattle.terms.specs.Outcome.{accepted}
use Rattle.terms.specs.Limits.{most_value}
use Rattle.terms.specs.Numbers.{sum, AllUpTo}
use Rattle.terms.proofs.Tests.{by_test}
use Rattle.ledger.specs.Ledger.{ledger_of}
use Rattle.ledger.proofs.Laws.{judged}
use Rattle.split.specs.Rounds.{Rest, split_lines}
use Rattle.split.specs.Split.{figures_of, split_of}
use Rattle.split.proofs.Lines.{sum_parts}
use Rattle.split.proofs.Answer.{split_settles}
use Rattle.split.proofs.Facts.{settled_is, from_ledger}
use Rattle.shares.specs.Shares.{shares_of}
use Rattle.shares.proofs.Laws.{as_many, shares_add, one_at_least, none_without}
use Rattle.strata.specs.declared.Row.{Row}
use Rattle.strata.specs.Strata.{parts_of, books_of, no_row, row_of, rows_of, plan_of}
use Rattle.strata.proofs.Padded.{later_at}
use Rattle.strata.proofs.Planning.{books_add, PlanFacts, plan_facts}
use Rattle.strata.proofs.Laws.{row_at, part_within}

-- the book value of each stratum
book_at : (parts : List (List ℕ)) (h : ℕ) → get_or (books_of parts) h 0 ≡ sum (get_or parts h [])
unfolding books_of
book_at [] h = refl
book_at (part ∷ parts) zero = refl
book_at (part ∷ parts) (suc h) = book_at parts h

books_many : (parts : List (List ℕ)) → length (books_of parts) ≡ length parts
unfolding books_of
books_many parts = length-map parts sum

-- a row with value has its own draws and figures, and one without has none
module _ (part : List ℕ) (draws : ℕ) where
  pub row_valued : 0 < sum part → row_of part draws ≡ record { draws = draws; figures = figures_of part (split_lines part draws) }
  unfolding row_of
  row_valued value = let some : sum part ≡ 0 → ⊥ = λ z. omega arith in simp (ne_eqb (sum part) 0 some)

  row_without : sum part ≡ 0 → row_of part draws ≡ no_row
  unfolding row_of
  row_without none = simp (eq-eqb (sum part) 0 none)

  row_draws : (sum part ≡ 0 → draws ≡ 0) → (row_of part draws).draws ≡ draws
  unfolding row_of
  row_draws none = by_test (λ (r : Row). r.draws ≡ draws) (eqb (sum part) 0) (λ z. sym (none (eqb-true _ _ z))) (λ z. refl)

  row_totals : (0 < sum part → 0 < draws) → (row_of part draws).figures.sampled_total + (row_of part draws).figures.full_total ≡ sum part
  unfolding row_of
  row_totals some =
      by_test (λ (r : Row). r.figures.sampled_total + r.figures.full_total ≡ sum part) (eqb (sum part) 0) (λ z. omega (arith, eqb-true (sum part) 0 z))
      (λ z. let n = eqb-false (sum part) 0 z in
      let r : Rest = split_lines part draws in
      omega (arith, ap sum (split_settles part draws (some (omega arith))).rest, sum_parts r.interval part))

-- over the strata
abbrev pub draws_in : List Row → ℕ
draws_in rows = sum (map (λ (r : Row). r.draws) rows)

abbrev pub sampled_in : List Row → ℕ
sampled_in rows = sum (map (λ (r : Row). r.figures.sampled_total) rows)

abbrev pub full_in : List Row → ℕ
full_in rows = sum (map (λ (r : Row). r.figures.full_total) rows)

rows_draws : (parts : List (List ℕ)) (draws : List ℕ) → length draws ≡ length parts → ((h : ℕ) → sum (get_or parts h []) ≡ 0 → get_or draws h 0 ≡ 0) → draws_in (rows_of parts draws) ≡ sum draws
unfolding rows_of
rows_draws [] [] long none = refl
rows_draws [] (d ∷ draws) long none = absurd (omega arith)
rows_draws (part ∷ parts) [] long none = absurd (omega arith)
rows_draws (part ∷ parts) (d ∷ draws) long none = omega (arith, row_draws part d (none 0), rows_draws parts draws (omega arith) (λ h. none (suc h)))

rows_totals : (parts : List (List ℕ)) (draws : List ℕ) → ((h : ℕ) → 0 < sum (get_or parts h []) → 0 < get_or draws h 0) →
    sampled_in (rows_of parts draws) + full_in (rows_of parts draws) ≡ sum (books_of parts)
unfolding rows_of books_of
rows_totals [] draws some = refl
rows_totals (part ∷ parts) draws some =
    omega (arith, row_totals part (get_or draws 0 0) (some 0), rows_totals parts (drop 1 draws) (λ h v. subst (λ (d : ℕ). 0 < d) (sym (later_at 0 draws h)) (some (suc h) v)))

-- a part of a ledger that is judged
all_take : (bound k : ℕ) (l : List ℕ) → AllUpTo bound l → AllUpTo bound (take k l)
all_take bound zero l a = tt
all_take bound (suc k) [] a = tt
all_take bound (suc k) (v ∷ l) a = (a.0, all_take bound k l a.1)

all_drop : (bound k : ℕ) (l : List ℕ) → AllUpTo bound l → AllUpTo bound (drop k l)
all_drop bound zero l a = a
all_drop bound (suc k) [] a = tt
all_drop bound (suc k) (v ∷ l) a = all_drop bound k l a.1

part_each : (bound : ℕ) (counts ledger : List ℕ) (h : ℕ) → AllUpTo bound ledger → AllUpTo bound (get_or (parts_of counts ledger) h [])
unfolding parts_of
part_each bound [] ledger h a = tt
part_each bound (count ∷ counts) ledger zero a = all_take bound count ledger a
part_each bound (count ∷ counts) ledger (suc h) a = part_each bound counts (drop count ledger) h (all_drop bound count ledger a)

part_few : (counts ledger : List ℕ) (h : ℕ) → length (get_or (parts_of counts ledger) h []) ≤ length ledger
unfolding parts_of
part_few [] ledger h = zero-le
part_few (count ∷ counts) ledger zero = omega (arith, length-take count ledger)
part_few (count ∷ counts) ledger (suc h) = omega (arith, part_few counts (drop count ledger) h, length-drop count ledger)

-- of every plan that is accepted
module _ (ledger counts : List ℕ) (n : ℕ) (same : Bool) (rows : List Row) (e : plan_of ledger counts n same ≡ accepted rows) where
  -- a stratum's own lines, and its share
  abbrev pub part_of : ℕ → List ℕ
  part_of h = get_or (parts_of counts ledger) h []

  abbrev pub share_of : ℕ → ℕ
  share_of h = get_or (shares_of (books_of (parts_of counts ledger)) n) h 0

  facts : PlanFacts ledger counts n same rows
  facts = plan_facts ledger counts n same rows e

  books_whole : sum (books_of (parts_of counts ledger)) ≡ sum ledger
  books_whole = books_add counts ledger facts.checks.add

  books_some : 0 < sum (books_of (parts_of counts ledger))
  books_some = let s = facts.checks.good.some in omega (arith, books_whole)

  -- a draw for each stratum with value, and none for the others
  pub share_some : (h : ℕ) → 0 < sum (get_or (parts_of counts ledger) h []) → 0 < share_of h
  share_some h value = one_at_least (books_of (parts_of counts ledger)) n books_some facts.enough h (omega (arith, book_at (parts_of counts ledger) h))

  share_none : (h : ℕ) → sum (get_or (parts_of counts ledger) h []) ≡ 0 → share_of h ≡ 0
  share_none h none = none_without (books_of (parts_of counts ledger)) n books_some facts.enough h (book_at (parts_of counts ledger) h ∙ none)

  -- the draws add to n
  pub draws_add : draws_in rows ≡ n
  draws_add =
      let parts = parts_of counts ledger in
      let own : List ℕ = books_of parts in
      ap draws_in facts.shared ∙ rows_draws parts (shares_of own n) (as_many own n ∙ books_many parts) share_none ∙ shares_add own n books_some facts.enough

  -- the book values of the strata, sampled and full, add to the whole
  pub totals_add : sampled_in rows + full_in rows ≡ sum ledger
  totals_add =
      let parts = parts_of counts ledger in
      ap (λ (l : List Row). sampled_in l + full_in l) facts.shared ∙ rows_totals parts (shares_of (books_of parts) n) share_some ∙ books_whole

  -- the row of a stratum is that of its own lines and its share
  pub own_row : (h : ℕ) → get_or rows h no_row ≡ row_of (part_of h) (share_of h)
  own_row h = ap (λ (l : List Row). get_or l h no_row) facts.shared ∙ row_at (parts_of counts ledger) (shares_of (books_of (parts_of counts ledger)) n) h

  module _ (h : ℕ) (value : 0 < sum (get_or (parts_of counts ledger) h [])) where
    -- a stratum with value is a ledger that is judged
    pub own_ledger : ledger_of (part_of h) (length (part_of h)) ≡ accepted (sum (part_of h))
    own_ledger =
        let g = facts.checks.good in
        judged (part_of h) (part_each most_value counts ledger h g.each) (omega (arith, part_within counts ledger h, g.most)) value (omega (arith, part_few counts ledger h, g.few))

    -- and its figures are those of its own split
    pub own_split : split_of (part_of h) (share_of h) (length (part_of h)) ≡ accepted (get_or rows h no_row).figures
    own_split =
        sym (from_ledger (part_of h) (share_of h) (length (part_of h)) (sym own_ledger)) ∙ settled_is (part_of h) (share_of h) (share_some h value)
        ∙ ap (λ (r : Row). accepted r.figures) (sym (own_row h ∙ row_valued (part_of h) (share_of h) value))

    pub own_draws : (get_or rows h no_row).draws ≡ share_of h
    own_draws = ap (λ (r : Row). r.draws) (own_row h ∙ row_valued (part_of h) (share_of h) value)

  -- a stratum without value has no draw, and J 0
  pub without_value : (h : ℕ) → sum (get_or (parts_of counts ledger) h []) ≡ 0 → get_or rows h no_row ≡ no_row
  without_value h none = own_row h ∙ row_without (part_of h) (share_of h) none
