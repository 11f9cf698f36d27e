-- Which refusals the plan gives, and which the plan for starts. Assumes nothing.
use mathlib.Core.Bool.{Bool, true}
use mathlib.Core.List.{List, [], ◌∷◌}
use Prim.Native.Nat.{ℕ, suc}
use lib.Dec.{T, eqb, ltb}
use lib.ListN.{length, get_or, drop}
use Rattle.terms.specs.Outcome.{accepted}
use Rattle.terms.specs.Limits.{most_strata}
use Rattle.terms.specs.Numbers.{sum}
use Rattle.terms.proofs.Outcomes.{among, Gives, gives_after, gives_among}
use Rattle.terms.proofs.Tests.{by_test}
use Rattle.ledger.specs.Ledger.{ledger_with}
use Rattle.ledger.proofs.Laws.{ledger_numbers, lent_gives, value_numbers, same_gives}
use Rattle.split.specs.Start.{start_fits}
use Rattle.shares.specs.Shares.{with_value}
use Rattle.strata.specs.declared.Row.{Row}
use Rattle.strata.specs.Strata.{parts_of, books_of, no_row, plan_from, checked_of, plan_of}
use Rattle.strata.specs.Starts.{agree, starts_from, rows_started, started_of}

-- 22 and 30 come before the ledger's, 8 and 23 after them
module _ (numbers : List ℕ) (strata : T (among 22 numbers)) (add : T (among 30 numbers)) (none : T (among 8 numbers)) (few : T (among 23 numbers)) where
  with_ledger : (ledger counts : List ℕ) (n : ℕ) (same : Bool) → Gives numbers (ledger_with ledger same) → Gives numbers (plan_of ledger counts n same)
  unfolding plan_of plan_from checked_of
  with_ledger ledger counts n same given =
      gives_after numbers (λ (total : ℕ). plan_from (parts_of counts ledger) n) (checked_of ledger counts same)
      (by_test (Gives numbers) (eqb (length counts) 0) (λ p. strata)
      (λ p. by_test (Gives numbers) (ltb most_strata (length counts)) (λ q. strata)
      (λ q. by_test (Gives numbers) (eqb (sum counts) (length ledger)) (λ r. given) (λ r. add))))
      (λ total. by_test (Gives numbers) (eqb n 0) (λ p. none)
      (λ p. by_test (Gives numbers) (ltb n (with_value (books_of (parts_of counts ledger)))) (λ q. few) (λ q. tt)))

-- the refusals that the plan gives
abbrev pub plan_numbers : List ℕ
plan_numbers = 22 ∷ 30 ∷ 2 ∷ 3 ∷ 4 ∷ 5 ∷ 8 ∷ 23 ∷ []

pub plan_gives : (ledger counts : List ℕ) (n : ℕ) → Gives plan_numbers (plan_of ledger counts n true)
plan_gives ledger counts n = with_ledger plan_numbers tt tt tt tt ledger counts n true (gives_among (2 ∷ value_numbers) plan_numbers tt (ledger_with ledger true) (same_gives ledger))

-- with lists lent beside the ledger, 13 too; and 11 for the starts
abbrev pub started_numbers : List ℕ
started_numbers = 22 ∷ 30 ∷ 2 ∷ 13 ∷ 3 ∷ 4 ∷ 5 ∷ 8 ∷ 23 ∷ 11 ∷ []

starts_give : (h : ℕ) (rows : List Row) (starts : List ℕ) → Gives started_numbers (starts_from h rows starts)
unfolding starts_from
starts_give h rows [] = tt
starts_give h rows (start ∷ later) =
    by_test (Gives started_numbers) (start_fits start (get_or rows 0 no_row).figures.interval) (λ p. starts_give (suc h) (drop 1 rows) later) (λ p. tt)

pub started_gives : (ledger counts : List ℕ) (n : ℕ) (starts : List ℕ) (beside : ℕ) → Gives started_numbers (started_of ledger counts n starts beside)
unfolding started_of
started_gives ledger counts n starts beside =
    let same : Bool = agree beside (length ledger) (length starts) (length counts) in
    gives_after started_numbers (rows_started starts) (plan_of ledger counts n same)
    (with_ledger started_numbers tt tt tt tt ledger counts n same (gives_among ledger_numbers started_numbers tt (ledger_with ledger same) (lent_gives ledger same)))
    (λ rows. gives_after started_numbers (λ (strata : ℕ). accepted rows) (starts_from 0 rows starts) (starts_give 0 rows starts) (λ strata. tt))
