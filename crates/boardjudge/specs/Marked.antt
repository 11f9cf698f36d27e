-- A line by its mark, and what the walk along the lines asks. Definitions: nothing is assumed.
use Rattle.std.specs.Prelude.{ℕ, ◌≤◌, ◌<◌, ◌≡◌, List, eqb, ℤ, length, get_or}
use Rattle.terms.specs.Limits.{most_interval}
use Rattle.signed.specs.declared.Part.TheVariants.{Size}
use Rattle.signed.specs.Parts.{parts}
use Rattle.project.specs.declared.Line.{Line}
use Rattle.project.specs.Lines.{amount, state_by}
use Rattle.blackboard.specs.Steps.{ToAdd}

-- a line with the state that its mark says: 2 full, 1 drawn with its amount, 0 neither
abbrev pub marked_line : ℕ → ℕ → ℕ → ℕ → Line
marked_line J value error mark = record { value = value; error = error; state = state_by (eqb mark 2) (eqb mark 1) (amount J value error) }

-- a mark that a walk has left, and an error within the value
pub record MarkFits (J value error mark : ℕ) : Type 0 where
  pub narrow : J ≤ most_interval
  pub within : error ≤ value
  pub some : mark ≡ 1 → (0 < value) × (value ≤ J)

-- a ledger whose lines can be walked along, none of whose errors exceeds its value
pub record Walkable (J start : ℕ) (ledger : List ℕ) (errors : List ℤ) : Type 0 where
  pub given : ToAdd J start ledger errors
  pub within : (item : ℕ) → item < length ledger → get_or (parts Size errors) item 0 ≤ get_or ledger item 0
