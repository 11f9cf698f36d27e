-- The steps in the desk program's order, from a file's content: each after the refusals of those before it. Definitions: nothing is assumed.
use Rattle.std.specs.Prelude.{ℕ, ◌+◌, ◌≤◌, ◌<◌, ◌≡◌, List, ℤ, length, get_or, Result}
use Rattle.terms.specs.declared.Refusal.{Refusal}
use Rattle.terms.specs.Limits.{most_lines, most_total, most_interval}
use Rattle.terms.specs.Numbers.{sum}
use Rattle.terms.specs.Outcome.{Outcome, accepted, after, says}
use Rattle.signed.specs.declared.Part.TheVariants.{Size}
use Rattle.signed.specs.Parts.{parts}
use Rattle.factors.specs.Levels.{level_of}
use Rattle.ledger.specs.Ledger.{ledger_of}
use Rattle.size.specs.Size.{size_of}
use Rattle.split.specs.declared.Figures.{Figures}
use Rattle.split.specs.Split.{split_of}
use Rattle.start.specs.declared.Chosen.{Chosen}
use Rattle.start.specs.Start.{start_of}
use Rattle.judge.specs.declared.Judgement.{Judgement}
use Rattle.judge.specs.Judge.{judge_of}
use Rattle.workfile.specs.declared.Plan.{Plan}
use Rattle.steps.specs.declared.{Planned.Planned, Answers.Answers}

-- the plan with the ledger's total and the number of draws
abbrev pub planned_with : Plan → ℕ → ℕ → Planned
planned_with plan total draws = record { level = plan.level; total = total; te = plan.te; ae = plan.ae; draws = draws }

abbrev pub answers_with : Planned → Figures → Chosen → Judgement → Answers
answers_with planned figures chosen judgement = record { planned = planned; figures = figures; chosen = chosen; judgement = judgement }

-- the judgement: 14 and 15 line by line, then 16
unfoldable pub judged_from : Planned → List ℕ → List ℤ → Figures → Chosen → Outcome Answers
judged_from planned ledger errors figures chosen =
    after (λ judgement. accepted (answers_with planned figures chosen judgement))
    (judge_of planned.level ledger planned.draws chosen.start errors planned.te)

-- the random start: 12
unfoldable pub started_from : Planned → List ℕ → List ℕ → List ℤ → Figures → Outcome Answers
started_from planned words ledger errors figures = after (judged_from planned ledger errors figures) (start_of figures.interval words)

-- the split: 8
unfoldable pub split_from : Planned → List ℕ → List ℕ → List ℤ → Outcome Answers
split_from planned words ledger errors = after (started_from planned words ledger errors) (split_of ledger planned.draws (length errors))

-- the number of draws: 6, 7
unfoldable pub sized_from : Plan → List ℕ → List ℕ → List ℤ → ℕ → Outcome Answers
sized_from plan words ledger errors total =
    after (λ draws. split_from (planned_with plan total draws) words ledger errors) (size_of plan.level total plan.te plan.ae)

-- the ledger: 2, 13, then 3 and 4 line by line, then 5
unfoldable pub totalled_from : Plan → List ℕ → List ℕ → List ℤ → Outcome Answers
totalled_from plan words ledger errors = after (sized_from plan words ledger errors) (ledger_of ledger (length errors))

-- the level: 1
unfoldable pub steps_of : Plan → List ℕ → List ℕ → List ℤ → Outcome Answers
steps_of plan words ledger errors = after (λ level. totalled_from plan words ledger errors) (level_of plan.level)

-- what `steps` promises: the answer, and that its split has kept a draw
pub record StepsPromise (plan : Plan) (words ledger : List ℕ) (errors : List ℤ) (r : Result Answers Refusal) : Type 0 where
  pub answer : says r ≡ steps_of plan words ledger errors
  pub draw_kept : (answers : Answers) → says r ≡ accepted answers → 1 ≤ answers.figures.draws_left

-- what steps that accept have shown of the interval and the lines, the first of which has a number
pub record Shown (first J : ℕ) (ledger : List ℕ) (errors : List ℤ) : Type 0 where
  pub narrow : J ≤ most_interval
  pub few : first + length ledger ≤ most_lines
  pub summed : sum ledger ≤ most_total
  pub same : length errors ≡ length ledger
  pub within : (item : ℕ) → item < length ledger → get_or (parts Size errors) item 0 ≤ get_or ledger item 0
