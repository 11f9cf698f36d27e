-- The plan from its steps, as the code meets them, and what is known of an accepted plan. Assumes nothing.
use mathlib.Core.Path.{◌≡◌, refl, sym, ap, subst, ◌∙◌}
use Rattle.std.specs.Prelude.{Result, Ok, Err}
use Rattle.std.specs.Result.{result_unwrap_or}
use mathlib.Core.Bool.{Bool, true}
use mathlib.Core.List.{List, [], ◌∷◌}
use Prim.Native.Nat.{ℕ, suc, ◌+◌, ◌-◌, ◌≤◌, ◌<◌}
use native.Mathlib.Omega.{arith}
use borrow.Author.Tests.{ne_eqb, lt-ltb, le-ltb, eqb-true, eqb-false, ltb-false}
use lib.Dec.{eqb, ltb}
use lib.ListN.{length, get_or, take, drop, replicate, drop_of_length-le, take-append-drop}
use lib.Seq.{drop-drop}
use Rattle.terms.specs.declared.Refusal.{Refusal}
use Rattle.terms.specs.Outcome.{Outcome, accepted, refused, refused_by, after, left, says}
use Rattle.terms.specs.Limits.{most_strata}
use Rattle.terms.specs.Numbers.{sum, pad_to}
use Rattle.terms.proofs.Outcomes.{never, after_accepted}
use Rattle.terms.proofs.Sums.{sum_append}
use Rattle.terms.proofs.Tests.{by_test}
use Rattle.ledger.proofs.Laws.{Good, lent_good}
use Rattle.shares.specs.Shares.{with_value, shares_of}
use Rattle.shares.specs.Steps.{Shareable}
use Rattle.shares.proofs.Laws.{one_at_least}
use Rattle.shares.proofs.Padded.{sum_padded, with_padded, shares_padded, entry_padded}
use Rattle.strata.specs.declared.Row.{Row}
use Rattle.strata.specs.declared.Planned.{Planned}
use Rattle.strata.specs.Strata.{parts_of, books_of, no_row, rows_of, plan_from, checked_of, plan_of, plan_with, PlanPromise}
use Rattle.strata.specs.Steps.{Judged, Sharing}
use Rattle.strata.proofs.Padded.{Alike, rows_alike}

-- as many strata as counts, and a row for each
pub parts_many : {A : Type 0} (counts : List ℕ) (l : List A) → length (parts_of counts l) ≡ length counts
unfolding parts_of
parts_many [] l = refl
parts_many (count ∷ counts) l = ap suc (parts_many counts (drop count l))

pub rows_many : (parts : List (List ℕ)) (draws : List ℕ) → length (rows_of parts draws) ≡ length parts
unfolding rows_of
rows_many [] draws = refl
rows_many (part ∷ parts) draws = ap suc (rows_many parts (drop 1 draws))

-- the strata's book values, with the lines past the last, add to the whole
books_and_rest : (counts ledger : List ℕ) → sum (books_of (parts_of counts ledger)) + sum (drop (sum counts) ledger) ≡ sum ledger
unfolding parts_of books_of
books_and_rest [] ledger = omega arith
books_and_rest (count ∷ counts) ledger =
    omega (arith, books_and_rest counts (drop count ledger), ap sum (drop-drop (sum counts) count ledger), sum_append (take count ledger) (drop count ledger), ap sum (take-append-drop count ledger))

pub books_add : (counts ledger : List ℕ) → sum counts ≡ length ledger → sum (books_of (parts_of counts ledger)) ≡ sum ledger
books_add counts ledger e = omega (arith, books_and_rest counts ledger, ap sum (drop_of_length-le ledger {i = sum counts} (omega arith)))

-- enough draws: a row for each stratum
enough_draws : (parts : List (List ℕ)) (n : ℕ) → (n ≡ 0 → ⊥) → with_value (books_of parts) ≤ n → plan_from parts n ≡ accepted (rows_of parts (shares_of (books_of parts) n))
unfolding plan_from
enough_draws parts n some enough = simp (ne_eqb n 0 some, le-ltb n (with_value (books_of parts)) enough)

-- the book values in an array
module _ (ledger counts : List ℕ) {books : List ℕ} (n : ℕ) (values : books ≡ pad_to most_strata 0 (books_of (parts_of counts ledger))) where
  abbrev own : List ℕ
  own = books_of (parts_of counts ledger)

  abbrev past : ℕ
  past = most_strata - length own

  with_own : with_value books ≡ with_value own
  unfolding pad_to
  with_own = ap with_value values ∙ with_padded past own

  sum_own : sum books ≡ sum own
  unfolding pad_to
  sum_own = ap sum values ∙ sum_padded past own

  pub few_promised : {w : ℕ} → (n ≡ 0 → ⊥) → w ≡ with_value books → n < w → PlanPromise (plan_from (parts_of counts ledger) n) (Err Refusal.TooFewDraws)
  unfolding plan_from
  few_promised some e few = let under : n < with_value own = omega (arith, with_own) in sym (simp (ne_eqb n 0 some, lt-ltb n (with_value own) under))

  module _ {total w : ℕ} (given : Judged ledger counts total) (e : w ≡ with_value books) (enough : w ≤ n) where
    sum_total : sum own ≡ sum ledger
    sum_total = books_add counts ledger given.parted.add

    some_own : 0 < sum own
    some_own = let a = given.added in let s = given.some in omega (arith, sum_total)

    enough_own : with_value own ≤ n
    enough_own = omega (arith, with_own)

    pub shareable : Shareable books total n
    shareable =
        let m = given.parted.most in
        let a = given.added in
        record { added = omega (arith, sum_own, sum_total); some = given.some; most = omega arith; enough = omega arith }

    module _ {draws : List ℕ} (shared : draws ≡ shares_of books n) where
      pub sharing : Sharing ledger counts books draws
      sharing =
          let some : 0 < sum books = omega (arith, sum_own, some_own) in
          record {
            parted = given.parted;
            values = values;
            shared = λ h v. subst (λ (l : List ℕ). 0 < get_or l h 0) (sym shared) (one_at_least books n some (omega arith) h v);
          }

      -- the shares in the array are those of the strata's own book values
      shares_own : Alike 0 draws (shares_of own n)
      unfolding pad_to
      shares_own h =
          ap (λ (l : List ℕ). get_or l h 0) (shared ∙ ap (λ (b : List ℕ). shares_of b n) values ∙ shares_padded past own n some_own enough_own)
          ∙ entry_padded past (shares_of own n) h

      pub rows_promised : {rows : List Row} → (n ≡ 0 → ⊥) → rows ≡ pad_to most_strata no_row (rows_of (parts_of counts ledger) draws) →
          PlanPromise (plan_from (parts_of counts ledger) n) (Ok (record { strata = length counts; rows = rows }))
      rows_promised {rows} some is =
          let parts = parts_of counts ledger in
          let own_rows : List Row = rows_of parts (shares_of own n) in
          let many : length counts ≡ length own_rows = sym (rows_many parts (shares_of own n) ∙ parts_many counts ledger) in
          let same : rows ≡ pad_to most_strata no_row own_rows = is ∙ ap (pad_to most_strata no_row) (rows_alike parts draws (shares_of own n) shares_own) in
          (λ i. accepted (record { strata = many i; rows = same i })) ∙ sym (ap (after (λ rows. accepted (plan_with rows))) (enough_draws parts n some enough_own))

-- what they leave
pub record Checked (ledger counts : List ℕ) (same : Bool) (total : ℕ) : Type 0 where
  pub some : 0 < length counts
  pub few : length counts ≤ most_strata
  pub add : sum counts ≡ length ledger
  pub lent : same ≡ true
  pub good : Good ledger (length ledger) total

pub checked_facts : (ledger counts : List ℕ) (same : Bool) (total : ℕ) → checked_of ledger counts same ≡ accepted total → Checked ledger counts same total
unfolding checked_of
checked_facts ledger counts same total =
    by_test Met (eqb (length counts) 0) (λ p e. never e)
    (λ p. by_test Met (ltb most_strata (length counts)) (λ q e. never e)
    (λ q. by_test Met (eqb (sum counts) (length ledger))
    (λ r e. let g = lent_good ledger same total e in
    let n = eqb-false (length counts) 0 p in
    record { some = omega arith; few = ltb-false _ _ q; add = eqb-true _ _ r; lent = g.0; good = g.1 })
    (λ r e. never e)))
  where
    Met : Outcome ℕ → Type 0
    Met o = o ≡ accepted total → Checked ledger counts same total

pub checks_judged : (ledger counts : List ℕ) (same : Bool) {total : ℕ} → accepted total ≡ checked_of ledger counts same → Judged ledger counts total
checks_judged ledger counts same {total} e =
    let c = checked_facts ledger counts same total (sym e) in
    let g = c.good in
    let a = g.added in
    record { parted = record { few = c.few; add = c.add; most = omega (arith, g.most) }; added = a; some = g.some }

-- an accepted answer promises rows, and a refusal none
pub promised_rows : (o : Outcome (List Row)) {p : Planned} → PlanPromise o (Ok p) → (rows : List Row) × ((o ≡ accepted rows) × (p ≡ plan_with rows))
promised_rows (accepted rows) m = (rows, (refl, cc))
promised_rows (refused number place) m = never (sym m)

pub promised_refusal : (o : Outcome (List Row)) (why : Refusal) → PlanPromise o (Err why) → o ≡ refused_by why
promised_refusal (accepted rows) why m = never m
promised_refusal (refused number place) why m = cc

-- the plan, or none
pub or_none : (r : Result Planned Refusal) → result_unwrap_or r (record { strata = 0; rows = replicate 32 no_row }) ≡ left (λ p. p) (plan_with []) (says r)
unfolding pad_to
or_none (Ok p) = refl
or_none (Err why) = refl

-- what is known of an accepted plan
pub record PlanFacts (ledger counts : List ℕ) (n : ℕ) (same : Bool) (rows : List Row) : Type 0 where
  pub checks : Checked ledger counts same (sum ledger)
  pub some : 0 < n
  pub enough : with_value (books_of (parts_of counts ledger)) ≤ n
  pub shared : rows ≡ rows_of (parts_of counts ledger) (shares_of (books_of (parts_of counts ledger)) n)

pub plan_facts : (ledger counts : List ℕ) (n : ℕ) (same : Bool) (rows : List Row) → plan_of ledger counts n same ≡ accepted rows → PlanFacts ledger counts n same rows
unfolding plan_of plan_from
plan_facts ledger counts n same rows e =
    let parts = parts_of counts ledger in
    let a = after_accepted (λ (total : ℕ). plan_from parts n) (checked_of ledger counts same) rows e in
    let c = checked_facts ledger counts same a.0 a.1 in
    let whole : Checked ledger counts same (sum ledger) = subst (Checked ledger counts same) c.good.added c in
    by_test Met (eqb n 0) (λ p f. never f)
    (λ p. by_test Met (ltb n (with_value (books_of parts))) (λ q f. never f)
    (λ q f. let w = eqb-false n 0 p in
    let is : rows_of parts (shares_of (books_of parts) n) ≡ rows = cc in
    record { checks = whole; some = omega arith; enough = ltb-false _ _ q; shared = sym is }))
    a.2
  where
    Met : Outcome (List Row) → Type 0
    Met o = o ≡ accepted rows → PlanFacts ledger counts n same rows
