-- One stratum is the plain split, refusals and all. Assumes nothing.
use mathlib.Core.Path.{◌≡◌, refl, sym, ap, ◌∙◌}
use mathlib.Core.Bool.{Bool}
use mathlib.Core.List.{List, [], ◌∷◌}
use mathlib.Core.Logic.{⊎_elim}
use Prim.Native.Nat.{ℕ, ◌+◌, ◌≤◌, ◌<◌}
use native.Mathlib.Nat.{eq-zero-or-pos}
use native.Mathlib.Omega.{arith}
use borrow.Author.Tests.{eq-eqb, ne_eqb, le-ltb}
use lib.Dec.{eqb}
use lib.ListN.{length}
use lib.Seq.{take_all}
use Rattle.terms.specs.Outcome.{Outcome, accepted, refused, after}
use Rattle.terms.specs.Numbers.{sum}
use Rattle.ledger.specs.Ledger.{ledger_with}
use Rattle.ledger.proofs.Laws.{lent_good, lent_one}
use Rattle.split.specs.declared.Figures.{Figures}
use Rattle.split.specs.Split.{figures_from, split_of}
use Rattle.split.proofs.Facts.{settled_is, from_ledger}
use Rattle.split.proofs.Answer.{no_draws}
use Rattle.shares.specs.Shares.{with_value}
use Rattle.shares.proofs.Laws.{all_to_one}
use Rattle.shares.proofs.Largest.{first_some}
use Rattle.strata.specs.declared.Row.{Row}
use Rattle.strata.specs.Strata.{parts_of, books_of, rows_of, plan_from, checked_of, plan_of}
use Rattle.strata.proofs.Own.{row_valued}

-- all draws, and the ledger's own figures
abbrev pub one_row : ℕ → Figures → List Row
one_row n figures = record { draws = n; figures = figures } ∷ []

module _ (ledger : List ℕ) (n : ℕ) where
  pub one_part : parts_of (length ledger ∷ []) ledger ≡ ledger ∷ []
  unfolding parts_of
  one_part = ap (λ (l : List ℕ). l ∷ []) (take_all (length ledger) ledger (omega arith))

  one_from : 0 < sum ledger → plan_from (ledger ∷ []) n ≡ after (λ f. accepted (one_row n f)) (figures_from ledger n)
  unfolding plan_from rows_of books_of
  one_from value =
      ⊎_elim
      (λ (z : n ≡ 0). simp (eq-eqb n 0 z) (ap (after (λ (f : Figures). accepted (one_row n f))) (no_draws ledger n z)))
      (λ (some : 0 < n).
      let drawn : n ≡ 0 → ⊥ = λ z. omega arith in
      let enough : with_value (sum ledger ∷ []) ≤ n = omega (arith, first_some (sum ledger) (λ z. omega arith)) in
      simp (ne_eqb n 0 drawn, le-ltb n (with_value (sum ledger ∷ [])) enough)
      (ap (λ (l : List ℕ). accepted (rows_of (ledger ∷ []) l)) (all_to_one (sum ledger) n value some)
      ∙ ap (λ (r : Row). accepted (r ∷ [])) (row_valued ledger n value)
      ∙ sym (ap (after (λ (f : Figures). accepted (one_row n f))) (settled_is ledger n some))))
      (eq-zero-or-pos n)

  -- the plan of one stratum: the ledger's refusals, 8, or its split
  pub one_plan : (same : Bool) → plan_of ledger (length ledger ∷ []) n same ≡ after (λ f. accepted (one_row n f)) (after (λ total. figures_from ledger n) (ledger_with ledger same))
  unfolding plan_of checked_of
  one_plan same =
      let whole : length ledger + 0 ≡ length ledger = omega arith in
      simp (eq-eqb (length ledger + 0) (length ledger) whole)
      (ap (λ (parts : List (List ℕ)). after (λ total. plan_from parts n) (ledger_with ledger same)) one_part ∙ go (ledger_with ledger same) refl)
    where
      go : (o : Outcome ℕ) → ledger_with ledger same ≡ o → after (λ total. plan_from (ledger ∷ []) n) o ≡ after (λ f. accepted (one_row n f)) (after (λ total. figures_from ledger n) o)
      go (accepted total) e = let g = (lent_good ledger same total e).1 in one_from (omega (arith, g.added, g.some))
      go (refused number place) e = refl

-- with one list lent beside it: the plain split
pub one_split : (ledger : List ℕ) (n beside : ℕ) → plan_of ledger (length ledger ∷ []) n (eqb beside (length ledger)) ≡ after (λ f. accepted (one_row n f)) (split_of ledger n beside)
one_split ledger n beside =
    one_plan ledger n (eqb beside (length ledger)) ∙ ap (after (λ (f : Figures). accepted (one_row n f))) (from_ledger ledger n beside (lent_one ledger beside))
