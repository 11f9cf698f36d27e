-- An export fixes its result as its operation fixes the answer; a refusal's number is
-- never 0, so that a caller can tell it from an accepted call; and where there is none, the split shows a draw that is left. Assumes nothing.
use mathlib.Core.Path.{◌≡◌, refl, sym, ap, ◌∙◌}
use Rattle.std.specs.Prelude.{Result, Ok, Err}
use mathlib.Core.List.{List}
use Prim.Native.Nat.{ℕ, ◌≤◌, ◌<◌}
use native.Mathlib.Omega.{arith}
use Rattle.terms.specs.declared.Refusal.{Refusal}
use Rattle.terms.specs.Outcome.{refused_by, says}
use Rattle.terms.proofs.Outcomes.{number_some}
use Rattle.split.specs.declared.{Figures.Figures}
use Rattle.split.specs.Split.{KeepsDraw, SplitPromise}
use Rattle.results.specs.declared.SplitResult.{SplitResult}
use Rattle.results.specs.Seen.{number_seen, Shows, Sees}
use Rattle.results.specs.Results.{split_seen}

-- where a promise says which outcome it is, the result shows this outcome
pub as_promised : {A O R : Type 0} (shows : O → R) (tells : A → O) {Promise : A → Type 0} {r : R} {o : O} → ((a : A) → Promise a → tells a ≡ o) → Shows (λ a. shows (tells a)) Promise r → r ≡ shows o
as_promised shows tells fixed s = s.shown ∙ ap shows (fixed s.answer s.promised)

pub refusal_seen : (A : Type 0) (why : Refusal) → 0 < number_seen (refused_by {A = A} why)
refusal_seen A why = number_some why

-- what C sees of a split that keeps a draw: where no refusal is told, at least one draw is left
kept_by : (r : Result Figures Refusal) → KeepsDraw (says r) → (split_seen (says r)).refusal ≡ 0 → 1 ≤ (split_seen (says r)).draws_left
kept_by (Ok f) k e = k f refl
kept_by (Err why) k e = absurd (omega (arith, refusal_seen Figures why))

-- so it is of what `mus_split` promises
pub draw_seen : (ledger : List ℕ) (n : ℕ) (marks marks' : List ℕ) (r : SplitResult) → Sees split_seen (λ a. SplitPromise ledger n marks a marks') r → r.refusal ≡ 0 → 1 ≤ r.draws_left
draw_seen ledger n marks marks' r s e =
    let same : r ≡ split_seen (says s.answer) = s.shown in
    let k = kept_by s.answer s.promised.draw_kept (sym (ap (λ (x : SplitResult). x.refusal) same) ∙ e) in
    omega (arith, ap (λ (x : SplitResult). x.draws_left) same, k)
