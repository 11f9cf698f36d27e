-- The projected lines: what each line of the projection projects, with the sign of its error, and the answer beside it. Definitions: nothing is
-- assumed.
use Rattle.std.specs.Prelude.{ℕ, ◌≤◌, ◌<◌, ◌≡◌, List, map, eqb, ℤ, pos, length, get_or, Result}
use Rattle.terms.specs.declared.Refusal.{Refusal}
use Rattle.terms.specs.Outcome.{Outcome, after, left, says}
use Rattle.terms.specs.Numbers.{pick}
use Rattle.terms.specs.Limits.{most_interval}
use Rattle.signed.specs.declared.Part.TheVariants.{Size}
use Rattle.signed.specs.Errors.{size_of, is_under, signed_of}
use Rattle.signed.specs.Parts.{parts, with_signs}
use Rattle.split.specs.Start.{figures_for}
use Rattle.project.specs.declared.{State.State, Line.Line, Projection.Projection}
use Rattle.project.specs.Project.{checked_lines, projected_by}
use Rattle.project.specs.Gather.{line_at}

-- the size of what a line projects: that of its error where it is full, its amount where it is drawn, 0 elsewhere
abbrev pub projects_by : State → ℕ → ℕ
projects_by State.NotDrawn error = 0
projects_by (State.Drawn projected) error = projected
projects_by State.Full error = error

abbrev pub projects : Line → ℕ
projects line = projects_by line.state line.error

-- line by line
unfoldable pub each_projects : List Line → List ℕ
each_projects lines = map projects lines

-- with the signs of the errors: what is left in the amounts
abbrev pub amounts_with : List ℤ → List Line → List ℤ
amounts_with errors lines = with_signs (each_projects lines) errors

-- on one line, from whose first cent the next drawing point is `next` cents on
abbrev pub projects_at : ℕ → ℕ → ℕ → ℤ → ℤ
projects_at J next value error = signed_of (projects (line_at J next value (size_of error))) (is_under error)

-- the length that is judged beside the ledger's: that of the errors where it differs, and else that of the amounts
abbrev pub length_beside : ℕ → ℕ → ℕ → ℕ
length_beside ledger errors amounts = pick (eqb errors ledger) amounts errors

-- the lines at the final interval, with the sizes of their errors, none of which breaks a rule, after the refusals of the split and 11
unfoldable pub lines_for : List ℕ → ℕ → ℕ → List ℤ → ℕ → Outcome (List Line)
lines_for ledger n start errors beside = after (λ figures. checked_lines 0 figures.interval start ledger (parts Size errors)) (figures_for ledger n start beside)

-- what they add up to: the projection at the final interval
unfoldable pub project_lines_of : List ℕ → ℕ → ℕ → List ℤ → ℕ → Outcome Projection
project_lines_of ledger n start errors beside = after (projected_by ledger start errors) (figures_for ledger n start beside)

-- what `project_lines` promises: the answer, and the amounts, which a refusal leaves
pub record LinesPromise (ledger : List ℕ) (n start : ℕ) (errors amounts : List ℤ) (r : Result Projection Refusal) (amounts' : List ℤ) : Type 0 where
  pub answer : says r ≡ project_lines_of ledger n start errors (length_beside (length ledger) (length errors) (length amounts))
  pub amounts_left : amounts' ≡ left (amounts_with errors) amounts (lines_for ledger n start errors (length_beside (length ledger) (length errors) (length amounts)))

-- what the writing asks: an error and an amount for each line, and no error larger than its line's value
pub record Writable (J : ℕ) (ledger : List ℕ) (errors amounts : List ℤ) : Type 0 where
  pub narrow : J ≤ most_interval
  pub errors_same : length errors ≡ length ledger
  pub amounts_same : length amounts ≡ length ledger
  pub within : (item : ℕ) → item < length ledger → size_of (get_or errors item (pos 0)) ≤ get_or ledger item 0
