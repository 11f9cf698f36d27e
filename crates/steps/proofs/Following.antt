-- The outcome of the steps, from what each of them answered. Assumes nothing.
use Prim.Native.Nat.{ℕ}
use Rattle.std.specs.Prelude.{Ok}
use mathlib.Core.Path.{◌≡◌, sym, ap}
use mathlib.Core.List.{List}
use lib.IntN.{ℤ}
use lib.ListN.{length}
use Rattle.terms.specs.declared.Refusal.{Refusal}
use Rattle.terms.specs.Outcome.{accepted, refused_by, after}
use Rattle.factors.specs.declared.Level.{Level}
use Rattle.factors.specs.Levels.{level_of}
use Rattle.ledger.specs.Ledger.{ledger_of}
use Rattle.size.specs.Size.{size_of}
use Rattle.split.specs.declared.Figures.{Figures}
use Rattle.split.specs.Split.{split_of}
use Rattle.start.specs.declared.Chosen.{Chosen}
use Rattle.start.specs.Start.{start_of}
use Rattle.judge.specs.declared.Judgement.{Judgement}
use Rattle.judge.specs.Judge.{judge_of}
use Rattle.workfile.specs.declared.Plan.{Plan}
use Rattle.steps.specs.Steps.{planned_with, answers_with, judged_from, started_from, split_from, sized_from, totalled_from, steps_of, StepsPromise}
use Rattle.steps.proofs.Accepted.{steps_promised}

module _ (plan : Plan) (words ledger : List ℕ) (errors : List ℤ) where
  -- the level's refusal ends them
  pub level_refused : (why : Refusal) → refused_by why ≡ level_of plan.level → refused_by why ≡ steps_of plan words ledger errors
  unfolding steps_of
  level_refused why e = ap (after (λ level. totalled_from plan words ledger errors)) e

  -- where each of them answers, so do they all
  all_answer : {level : Level} {total draws : ℕ} {f : Figures} {s : Chosen} {j : Judgement} → accepted level ≡ level_of plan.level → accepted total ≡ ledger_of ledger (length errors) →
      accepted draws ≡ size_of plan.level total plan.te plan.ae → accepted f ≡ split_of ledger draws (length errors) → accepted s ≡ start_of f.interval words →
      accepted j ≡ judge_of plan.level ledger draws s.start errors plan.te → accepted (answers_with (planned_with plan total draws) f s j) ≡ steps_of plan words ledger errors
  unfolding steps_of totalled_from sized_from split_from started_from judged_from
  all_answer level total draws split start judgement = simp (sym level, sym total, sym draws, sym split, sym start, sym judgement)

  pub all_promised : {level : Level} {total draws : ℕ} {f : Figures} {s : Chosen} {j : Judgement} → accepted level ≡ level_of plan.level → accepted total ≡ ledger_of ledger (length errors) →
      accepted draws ≡ size_of plan.level total plan.te plan.ae → accepted f ≡ split_of ledger draws (length errors) → accepted s ≡ start_of f.interval words →
      accepted j ≡ judge_of plan.level ledger draws s.start errors plan.te → StepsPromise plan words ledger errors (Ok (answers_with (planned_with plan total draws) f s j))
  all_promised level total draws split start judgement = steps_promised (all_answer level total draws split start judgement)
