-- The promise leaves no freedom: any two answers that meet it agree. And which refusals the steps give on the content of a legal file.
-- Assumes nothing.
use Prim.Native.Nat.{ℕ, ◌≤◌, ◌<◌}
use Rattle.terms.specs.declared.Refusal.{Refusal}
use Rattle.std.specs.Prelude.{Result}
use native.Mathlib.Omega.{arith}
use mathlib.Core.Path.{◌≡◌, refl, sym, ap, ◌∙◌}
use mathlib.Core.List.{List, [], ◌∷◌}
use mathlib.Core.Logic.{⊎_elim}
use lib.IntN.{ℤ}
use lib.ListN.{length}
use Rattle.terms.specs.Outcome.{Outcome, accepted, refused, after}
use Rattle.terms.proofs.Answers.{says_once}
use Rattle.terms.proofs.Outcomes.{Gives, gives_after, gives_among}
use Rattle.terms.proofs.Tests.{le_or_lt}
use Rattle.factors.specs.Levels.{level_of}
use Rattle.factors.proofs.Percents.{level_gives}
use Rattle.ledger.specs.Ledger.{ledger_of}
use Rattle.ledger.proofs.Laws.{value_numbers, values_give}
use Rattle.size.specs.Size.{size_of}
use Rattle.size.proofs.Laws.{at_least_one, size_numbers, size_gives}
use Rattle.split.specs.declared.Figures.{Figures}
use Rattle.split.specs.Split.{split_of}
use Rattle.split.specs.Start.{figures_for}
use Rattle.split.proofs.Facts.{split_facts, split_with_draws}
use Rattle.split.proofs.Start.{start_accepted, start_zero}
use Rattle.start.specs.declared.Chosen.{Chosen}
use Rattle.start.specs.Start.{start_of}
use Rattle.start.proofs.Laws.{within, no_interval, within_gives}
use Rattle.judge.specs.Judge.{judge_of}
use Rattle.judge.proofs.Laws.{judge_started}
use Rattle.workfile.specs.declared.Plan.{Plan}
use Rattle.workfile.specs.Content.{Content, most_file_lines}
use Rattle.workfile.specs.Decode.{decode}
use Rattle.workfile.proofs.OneFile.{read_counts}
use Rattle.steps.specs.declared.{Planned.Planned, Answers.Answers}
use Rattle.steps.specs.Steps.{StepsPromise, planned_with, answers_with, judged_from, started_from, split_from, sized_from, totalled_from, steps_of}

pub steps_once : {plan : Plan} {words ledger : List ℕ} {errors : List ℤ} {r₁ r₂ : Result Answers Refusal} → StepsPromise plan words ledger errors r₁ → StepsPromise plan words ledger errors r₂ → r₁ ≡ r₂
steps_once {r₁ = r₁} {r₂ = r₂} p q = says_once r₁ r₂ p.answer q.answer

-- a step that starts with another gives what either gives, the second from what the first has accepted
gives_then : {A B : Type 0} (numbers : List ℕ) (next : A → Outcome B) (o : Outcome A) → Gives numbers o → ((a : A) → o ≡ accepted a → Gives numbers (next a)) →
    Gives numbers (after next o)
gives_then numbers next (accepted a) g h = h a refl
gives_then numbers next (refused n p) g h = g

-- the refusals that the steps give on a legal file: 2, 8, 10, 11 and 13 are not among them
abbrev pub steps_numbers : List ℕ
steps_numbers = 1 ∷ 3 ∷ 4 ∷ 5 ∷ 6 ∷ 7 ∷ 12 ∷ 14 ∷ 15 ∷ 16 ∷ []

level_known : (percent : ℕ) → Gives steps_numbers (level_of percent)
level_known percent = gives_among (1 ∷ []) steps_numbers tt (level_of percent) (level_gives percent)

-- the start that was chosen is one of the split's figures, so 11 is not given
start_fits_lem : (words ledger : List ℕ) (n beside : ℕ) (f : Figures) (s : Chosen) → split_of ledger n beside ≡ accepted f → start_of f.interval words ≡ accepted s →
    figures_for ledger n s.start beside ≡ accepted f
start_fits_lem words ledger n beside f s split started =
    ⊎_elim
    (λ (h : f.interval ≤ 0).
    let none : f.interval ≡ 0 = omega arith in
    let first : s.start ≡ 0 = no_interval words s (sym (ap (λ (j : ℕ). start_of j words) none) ∙ started) in
    start_zero ledger n s.start beside f split (omega arith) (omega arith))
    (λ (h : 0 < f.interval). start_accepted ledger n s.start beside f split (within f.interval words s (omega arith) started))
    (le_or_lt f.interval 0)

module _ (ledger : List ℕ) (errors : List ℤ) (few : length ledger ≤ most_file_lines) (same : length errors ≡ length ledger) where
  ledger_known : Gives steps_numbers (ledger_of ledger (length errors))
  ledger_known = gives_among value_numbers steps_numbers tt (ledger_of ledger (length errors)) (values_give ledger (length errors) (omega arith) same)

  judged_gives : (p : Planned) (f : Figures) (s : Chosen) → figures_for ledger p.draws s.start (length errors) ≡ accepted f →
      Gives steps_numbers (judged_from p ledger errors f s)
  unfolding judged_from
  judged_gives p f s fits =
      gives_after steps_numbers (λ judgement. accepted (answers_with p f s judgement)) (judge_of p.level ledger p.draws s.start errors p.te)
      (judge_started steps_numbers p.level ledger p.draws s.start errors p.te f fits tt ledger_known) (λ judgement. tt)

  split_gives : (p : Planned) (words : List ℕ) → 1 ≤ p.draws → Gives steps_numbers (split_from p words ledger errors)
  unfolding split_from started_from
  split_gives p words some =
      gives_then steps_numbers (started_from p words ledger errors) (split_of ledger p.draws (length errors))
      (split_with_draws steps_numbers ledger p.draws (length errors) some ledger_known)
      (λ f split. gives_then steps_numbers (judged_from p ledger errors f) (start_of f.interval words)
      (gives_among (12 ∷ []) steps_numbers tt (start_of f.interval words) (within_gives f.interval words (split_facts ledger p.draws (length errors) f split).most))
      (λ s started. judged_gives p f s (start_fits_lem words ledger p.draws (length errors) f s split started)))

  pub steps_give : (plan : Plan) (words : List ℕ) → Gives steps_numbers (steps_of plan words ledger errors)
  unfolding steps_of totalled_from sized_from
  steps_give plan words =
      gives_after steps_numbers (λ level. totalled_from plan words ledger errors) (level_of plan.level) (level_known plan.level)
      (λ level. gives_after steps_numbers (sized_from plan words ledger errors) (ledger_of ledger (length errors)) ledger_known
      (λ total. gives_then steps_numbers (λ draws. split_from (planned_with plan total draws) words ledger errors) (size_of plan.level total plan.te plan.ae)
      (gives_among size_numbers steps_numbers tt (size_of plan.level total plan.te plan.ae) (size_gives plan.level total plan.te plan.ae))
      (λ draws sized. split_gives (planned_with plan total draws) words (at_least_one plan.level total plan.te plan.ae draws sized))))

-- on the content of a legal file
pub file_gives : (file : List ℕ) (c : Content) → decode file ≡ accepted c → Gives steps_numbers (steps_of c.plan c.words c.values c.errors)
file_gives file c e = let counts = read_counts file c e in steps_give c.values c.errors counts.few_lines counts.same c.plan c.words
