-- What holds of every split, as an accepted answer's figures say it; and which refusals are given. Assumes nothing.
use mathlib.Core.Path.{◌≡◌, refl, sym, ap, subst, ◌∙◌}
use mathlib.Core.List.{List, [], ◌∷◌}
use mathlib.Core.Logic.{⊎_elim}
use Prim.Native.Nat.{ℕ, ◌+◌, ◌/◌, ◌≤◌, ◌<◌}
use native.Mathlib.Nat.{eq-zero-or-pos, div-le_self}
use native.Mathlib.Omega.{arith}
use borrow.Author.Tests.{eqb-false, ne_eqb}
use lib.Dec.{ltb, eqb}
use lib.ListN.{length}
use Rattle.std.specs.Prelude.{Result, Ok}
use Rattle.terms.specs.declared.Refusal.{Refusal}
use Rattle.terms.specs.Outcome.{Outcome, accepted, after, says}
use Rattle.terms.specs.Numbers.{sum}
use Rattle.terms.specs.Limits.{most_interval}
use Rattle.terms.proofs.Outcomes.{never, after_accepted, Gives, gives_after, gives_among}
use Rattle.terms.proofs.Tests.{by_test}
use Rattle.ledger.specs.Ledger.{ledger_of, LedgerPromise}
use Rattle.ledger.proofs.Laws.{Good, good, ledger_numbers, ledger_gives}
use Rattle.split.specs.Rounds.{above, up_to, interval_of, Rest, split_lines, intervals, becomes_full}
use Rattle.split.specs.Split.{Totalled, figures_of, figures_from, split_of, KeepsDraw, FiguresPromise}
use Rattle.split.specs.declared.Figures.{Figures}
use Rattle.split.proofs.Lines.{sum_parts, up_to_zero}
use Rattle.split.proofs.Intervals.{full_exactly}
use Rattle.split.proofs.Answer.{split_settles, no_draws}

pub record SplitFacts (ledger : List ℕ) (n beside : ℕ) (f : Figures) : Type 0 where
  -- the ledger is accepted
  pub ledger_good : Good ledger beside (sum ledger)
  -- the figures are those of the rounds
  pub rounds : f ≡ figures_of ledger (split_lines ledger n)
  -- each full line uses a draw, and one at least is left
  pub draws : f.full_lines + f.draws_left ≡ n
  pub a_draw : 1 ≤ f.draws_left
  -- the totals add to the whole
  pub totals : f.sampled_total + f.full_total ≡ sum ledger
  -- sampled are the lines not above J, full are the others
  pub sampled : f.sampled_total ≡ sum (up_to f.interval ledger)
  pub full : f.full_lines ≡ length (above f.interval ledger)
  -- a line becomes full in some round exactly when its value exceeds the final J
  pub exactly : (value : ℕ) → becomes_full (intervals n ledger n) value ≡ ltb f.interval value
  -- J is the sampled total by the draws left, no larger than the first, at most the ledger's total, and so within its maximum
  pub final : f.interval ≡ f.sampled_total / f.draws_left
  pub small : f.interval ≤ interval_of ledger n
  pub within : f.interval ≤ sum ledger
  pub most : f.interval ≤ most_interval
  -- there is no interval only where nothing with value remains
  pub zero : f.interval ≡ 0 → f.sampled_total ≡ 0

module _ (ledger : List ℕ) (n : ℕ) (some : 0 < n) where
  pub settled_is : figures_from ledger n ≡ accepted (figures_of ledger (split_lines ledger n))
  unfolding figures_from
  settled_is = let draws : n ≡ 0 → ⊥ = λ z. omega arith in simp (ne_eqb _ _ draws)

  facts_of : (beside : ℕ) (f : Figures) → Good ledger beside (sum ledger) → f ≡ figures_of ledger (split_lines ledger n) → SplitFacts ledger n beside f
  facts_of beside f g same =
      let r : Rest = split_lines ledger n in
      let k = split_settles ledger n some in
      let rest = ap sum k.rest in
      let top : r.interval ≤ sum ledger = omega (arith, k.small, div-le_self (sum ledger) n) in
      rw same (record {
        ledger_good = g;
        rounds = refl;
        draws = omega arith;
        a_draw = k.left;
        totals = omega (arith, sum_parts r.interval ledger);
        sampled = rest;
        full = refl;
        exactly = λ value. full_exactly ledger n value some;
        final = k.final;
        small = k.small;
        within = top;
        most = omega (arith, g.most);
        zero = λ z. rest ∙ ap (λ (j : ℕ). sum (up_to j ledger)) z ∙ up_to_zero ledger;
      })

  facts_settled : (beside : ℕ) (f : Figures) → Good ledger beside (sum ledger) → figures_from ledger n ≡ accepted f → SplitFacts ledger n beside f
  facts_settled beside f g e =
      let h = sym e ∙ settled_is in
      let same : f ≡ figures_of ledger (split_lines ledger n) = cc in
      facts_of beside f g same

-- without draws nothing is accepted
pub some_draws : (ledger : List ℕ) (n : ℕ) {f : Figures} → figures_from ledger n ≡ accepted f → 0 < n
unfolding figures_from
some_draws ledger n {f} = by_test (λ o. o ≡ accepted f → 0 < n) (eqb n 0) (λ z h. never h) (λ z h. let w = eqb-false n 0 z in omega arith)

pub split_facts : (ledger : List ℕ) (n beside : ℕ) (f : Figures) → split_of ledger n beside ≡ accepted f → SplitFacts ledger n beside f
unfolding split_of
split_facts ledger n beside f e =
    let a = after_accepted (λ total. figures_from ledger n) (ledger_of ledger beside) f e in
    let g = good ledger beside a.0 a.1 in
    let whole : Good ledger beside (sum ledger) = record { few = g.few; same = g.same; added = refl; some = omega arith; most = omega arith; each = g.each } in
    facts_settled ledger n (some_draws ledger n a.2) beside f whole a.2

-- the split keeps a draw: the lines above J are always fewer than the draws (`few` of Laws.antt)
pub keeps_draw : (ledger : List ℕ) (n beside : ℕ) {o : Outcome Figures} → o ≡ split_of ledger n beside → KeepsDraw o
keeps_draw ledger n beside e f h = omega (arith, (split_facts ledger n beside f (sym e ∙ h)).a_draw)

-- the interval of a split is never above the ledger's total, so that no ledger earns 10
pub interval_within : (ledger : List ℕ) (n beside : ℕ) (f : Figures) → split_of ledger n beside ≡ accepted f → f.interval ≤ sum ledger
interval_within ledger n beside f e = (split_facts ledger n beside f e).within

-- the split is what follows from the ledger's outcome
pub from_ledger : (ledger : List ℕ) (n beside : ℕ) {o : Outcome ℕ} → o ≡ ledger_of ledger beside → after (λ total. figures_from ledger n) o ≡ split_of ledger n beside
unfolding split_of
from_ledger ledger n beside e = ap (after (λ total. figures_from ledger n)) e

pub totalled : (ledger : List ℕ) (beside total : ℕ) → accepted total ≡ ledger_of ledger beside → Totalled ledger total
totalled ledger beside total e = let g = good ledger beside total (sym e) in record { added = g.added; most = g.most }

-- as `split_figures` meets it
figures_promised : {ledger : List ℕ} {n beside : ℕ} {r : Result Figures Refusal} → says r ≡ split_of ledger n beside → FiguresPromise ledger n beside r
figures_promised {ledger} {n} {beside} e = record { answer = e; draw_kept = keeps_draw ledger n beside e }

pub judged_asked : {ledger : List ℕ} {beside total : ℕ} → LedgerPromise ledger beside (Ok total) → Totalled ledger total
judged_asked {ledger} {beside} {total} p = totalled ledger beside total p.answer

pub judged_split : {ledger : List ℕ} {n beside total : ℕ} {r : Result Figures Refusal} → LedgerPromise ledger beside (Ok total) → says r ≡ figures_from ledger n → FiguresPromise ledger n beside r
judged_split {ledger} {n} {beside} p e = figures_promised (e ∙ from_ledger ledger n beside p.answer)

-- and `split`
pub split_same : {ledger : List ℕ} {n beside : ℕ} {f : Figures} → FiguresPromise ledger n beside (Ok f) → beside ≡ length ledger
split_same {ledger} {n} {beside} {f} p = (split_facts ledger n beside f (sym p.answer)).ledger_good.same

-- the refusals that the split gives: 8 only without draws
abbrev pub split_numbers : List ℕ
split_numbers = 2 ∷ 13 ∷ 3 ∷ 4 ∷ 5 ∷ 8 ∷ []

-- a split by draws gives what the judgement of the ledger gives, and nothing else
drawn_gives : (numbers : List ℕ) (ledger : List ℕ) (n : ℕ) → 0 < n → Gives numbers (figures_from ledger n)
drawn_gives numbers ledger n some = rw (settled_is ledger n some) tt

pub split_with_draws : (numbers : List ℕ) (ledger : List ℕ) (n beside : ℕ) → 0 < n → Gives numbers (ledger_of ledger beside) → Gives numbers (split_of ledger n beside)
unfolding split_of
split_with_draws numbers ledger n beside some g = gives_after numbers (λ total. figures_from ledger n) (ledger_of ledger beside) g (λ total. drawn_gives numbers ledger n some)

pub split_gives : (ledger : List ℕ) (n beside : ℕ) → Gives split_numbers (split_of ledger n beside)
unfolding split_of
split_gives ledger n beside =
    gives_after split_numbers (λ total. figures_from ledger n) (ledger_of ledger beside) (gives_among ledger_numbers split_numbers tt (ledger_of ledger beside) (ledger_gives ledger beside))
    (λ total. ⊎_elim
    (λ (z : n ≡ 0). subst (Gives split_numbers) (no_draws ledger n z) tt)
    (λ some. drawn_gives split_numbers ledger n some)
    (eq-zero-or-pos n))
