-- The sheet of a ledger in strata, for every content: the plan, the starts, the projection, each after the refusals of those before it. Definitions: nothing is assumed.
use Rattle.std.specs.Prelude.{ℕ, ◌+◌, ◌*◌, min, List, eqb, ℤ, length}
use Rattle.terms.specs.Outcome.{Outcome, accepted, after}
use Rattle.terms.specs.Limits.{most_lines, most_strata}
use Rattle.start.specs.declared.Chosen.{Chosen}
use Rattle.strata.specs.declared.Row.{Row}
use Rattle.strata.specs.Strata.{plan_with, plan_of}
use Rattle.starts.specs.Starts.{starts_of, starts_in, starts_with}
use Rattle.stratified.specs.declared.projection.ProjectionRow.{ProjectionRow}
use Rattle.stratified.specs.Projection.{sums_with, project_strata_of}
use Rattle.sheet.specs.Sheet.{text_by}
use Rattle.handout.specs.declared.Answers.{Answers}
use Rattle.handout.specs.Lines.{answers_text}

abbrev pub answers_with : List Row → List Chosen → List ProjectionRow → Answers
answers_with rows chosen sums = record { plan = plan_with rows; chosen = starts_with chosen; sums = sums_with sums }

-- the projection at the starts chosen: 14 and 15 line by line
abbrev pub projected_with : ℕ → List ℕ → List ℕ → List ℤ → List Row → List Chosen → Outcome Answers
projected_with draws counts ledger errors rows chosen = after (λ sums. accepted (answers_with rows chosen sums)) (project_strata_of ledger counts draws (starts_in chosen) errors)

-- the starts from the words in their order: 12
abbrev pub started_with : ℕ → List ℕ → List ℕ → List ℕ → List ℤ → List Row → Outcome Answers
started_with draws counts words ledger errors rows = after (projected_with draws counts ledger errors rows) (starts_of rows words)

-- the plan: 22, 30, 2, 13, then 3 and 4 line by line, 5, 8, 23
unfoldable pub handout_of : ℕ → List ℕ → List ℕ → List ℕ → List ℤ → Outcome Answers
unfolding plan_of starts_of project_strata_of
handout_of draws counts words ledger errors = after (started_with draws counts words ledger errors) (plan_of ledger counts draws (eqb (length errors) (length ledger)))

-- the text of a content
unfoldable pub handout_text : ℕ → List ℕ → List ℕ → List ℕ → List ℤ → List ℕ
unfolding handout_of answers_text
handout_text draws counts words ledger errors = text_by (answers_text draws counts ledger errors) (handout_of draws counts words ledger errors)

-- no text of a content with so many lines and strata is longer: with more than the operations take, it is the line of a refusal
abbrev pub longest_for : ℕ → ℕ → ℕ
longest_for lines strata = 136 + (90 * lines + 349 * strata)

unfoldable pub room_for : ℕ → ℕ → ℕ
room_for lines strata = longest_for (min lines most_lines) (min strata most_strata)
