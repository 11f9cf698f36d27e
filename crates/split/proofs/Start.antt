-- A start against the split's interval: what follows from the split's outcome, what is known where the start fits, and which refusals are
-- given. Assumes nothing.
use mathlib.Core.Path.{◌≡◌, refl, sym, ap, ◌∙◌}
use mathlib.Core.Bool.{Bool, true}
use mathlib.Core.List.{List, [], ◌∷◌, ◌++◌}
use mathlib.Core.Logic.{⊎_elim}
use Prim.Native.Nat.{ℕ, ◌≤◌, ◌<◌}
use native.Mathlib.Nat.{eq-zero-or-pos}
use native.Mathlib.Omega.{arith}
use borrow.Author.Tests.{ltb-true, eqb-true, lt-ltb, le-ltb, eq-eqb, ne_eqb}
use lib.Dec.{eqb}
use Rattle.std.specs.Prelude.{Result}
use Rattle.terms.specs.declared.Refusal.{Refusal}
use Rattle.terms.specs.Outcome.{Outcome, accepted, refused, after, says}
use Rattle.terms.specs.Numbers.{pick}
use Rattle.terms.proofs.Outcomes.{never, after_accepted, Gives, gives_after, gives_among}
use Rattle.terms.proofs.Tests.{by_test}
use Rattle.ledger.specs.Ledger.{ledger_of}
use Rattle.split.specs.declared.Figures.{Figures}
use Rattle.split.specs.Split.{split_of}
use Rattle.split.specs.Start.{start_fits, start_in, figures_at, figures_for, FiguresForPromise}
use Rattle.split.proofs.Facts.{SplitFacts, split_facts, split_numbers, split_gives, from_ledger}

-- the figures for a start are what follows from the split's outcome
pub from_split : (ledger : List ℕ) (n start beside : ℕ) {o : Outcome Figures} → o ≡ split_of ledger n beside → after (start_in start) o ≡ figures_for ledger n start beside
unfolding figures_for
from_split ledger n start beside e = ap (after (start_in start)) e

-- the same of a ledger that is judged
pub from_total : (ledger : List ℕ) (n start beside total : ℕ) → accepted total ≡ ledger_of ledger beside → figures_at ledger n start ≡ figures_for ledger n start beside
unfolding figures_at
from_total ledger n start beside total e = from_split ledger n start beside (from_ledger ledger n beside e)

-- where the start stands to the interval, as `start_fits_lem` meets it
module _ (start J : ℕ) where
  pub fits_below : start < J → true ≡ start_fits start J
  fits_below h =
      let some : J ≡ 0 → ⊥ = λ z. omega arith in
      sym (simp (ne_eqb _ _ some, lt-ltb _ _ h))

  pub fits_none : J ≤ start → eqb start 0 ≡ start_fits start J
  fits_none h =
      ⊎_elim
      (λ (z : J ≡ 0). sym (simp (eq-eqb _ _ z)))
      (λ (s : 0 < J).
      let some : J ≡ 0 → ⊥ = λ z. omega arith in
      let late : start ≡ 0 → ⊥ = λ z. omega arith in
      sym (simp (ne_eqb _ _ some, le-ltb _ _ h, ne_eqb _ _ late)))
      (eq-zero-or-pos J)

-- and as a start inside is accepted
module _ (start : ℕ) (f : Figures) {fits : Bool} (is : fits ≡ start_fits start f.interval) where
  pub start_inside : fits ≡ true → accepted f ≡ start_in start f
  start_inside e = ap (λ (b : Bool). pick b (accepted f) (refused 11 0)) (sym e ∙ is)

-- what an accepted start gives
pub record StartFacts (ledger : List ℕ) (n start beside : ℕ) (f : Figures) : Type 0 where
  pub split : split_of ledger n beside ≡ accepted f
  pub facts : SplitFacts ledger n beside f
  pub early : start ≤ f.interval

pub fits_early : (J start : ℕ) → start_fits start J ≡ true → start ≤ J
fits_early J start =
    by_test (λ b. b ≡ true → start ≤ J) (eqb J 0) (λ z e. let q = eqb-true start 0 e in omega arith) (λ z e. let q = ltb-true start J e in omega arith)

pub start_facts : (ledger : List ℕ) (n start beside : ℕ) (f : Figures) → figures_for ledger n start beside ≡ accepted f → StartFacts ledger n start beside f
unfolding figures_for
start_facts ledger n start beside f e =
    let a = after_accepted (start_in start) (split_of ledger n beside) f e in
    by_test (λ o. o ≡ accepted f → StartFacts ledger n start beside f) (start_fits start a.0.interval)
    (λ p h. let same : a.0 ≡ f = cc in
    let split : split_of ledger n beside ≡ accepted f = a.1 ∙ h in
    record {
      split = split;
      facts = split_facts ledger n beside f split;
      early = fits_early f.interval start (ap (λ (g : Figures). start_fits start g.interval) (sym same) ∙ p);
    })
    (λ p h. never h) a.2

-- as `figures_for` meets it: the split keeps a draw, whatever the start
pub for_promised : {ledger : List ℕ} {n start beside : ℕ} {r : Result Figures Refusal} → says r ≡ figures_for ledger n start beside → FiguresForPromise ledger n start beside r
for_promised {ledger} {n} {start} {beside} e =
    record { answer = e; draw_kept = λ f h. omega (arith, (start_facts ledger n start beside f (sym e ∙ h)).facts.a_draw) }

-- a start below the interval is accepted, and so is 0 where there is none
pub start_accepted : (ledger : List ℕ) (n start beside : ℕ) (f : Figures) → split_of ledger n beside ≡ accepted f → start < f.interval → figures_for ledger n start beside ≡ accepted f
start_accepted ledger n start beside f e h = sym (start_inside start f (fits_below start f.interval h) refl ∙ from_split ledger n start beside (sym e))

pub start_zero : (ledger : List ℕ) (n start beside : ℕ) (f : Figures) → split_of ledger n beside ≡ accepted f → f.interval ≤ start → start ≤ 0 → figures_for ledger n start beside ≡ accepted f
start_zero ledger n start beside f e h l =
    let none : start ≡ 0 = omega arith in
    sym (start_inside start f (fits_none start f.interval h) (eq-eqb _ _ none) ∙ from_split ledger n start beside (sym e))

-- the refusals that the figures for a start give
abbrev pub figures_numbers : List ℕ
figures_numbers = split_numbers ++ (11 ∷ [])

pub figures_give : (ledger : List ℕ) (n start beside : ℕ) → Gives figures_numbers (figures_for ledger n start beside)
unfolding figures_for
figures_give ledger n start beside =
    gives_after figures_numbers (start_in start) (split_of ledger n beside) (gives_among split_numbers figures_numbers tt (split_of ledger n beside) (split_gives ledger n beside))
    (λ f. by_test (Gives figures_numbers) (start_fits start f.interval) (λ p. tt) (λ p. tt))
