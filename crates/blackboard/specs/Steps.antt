-- What the functions of the walk ask of each other; no promise of an operation names these. Definitions: nothing is assumed.
use Rattle.std.specs.Prelude.{ℕ, ◌+◌, ◌≤◌, ◌<◌, ◌^◌, ◌≡◌, false, List, ltb, eqb, ℤ, length}
use Rattle.terms.specs.Numbers.{pick, sum}
use Rattle.terms.specs.Limits.{most_lines, most_total, most_interval}
use Rattle.signed.specs.Errors.{most_size}
use Rattle.blackboard.specs.declared.{BoardSums.BoardSums, BoardKinds.BoardKinds, Walker.Walker}
use Rattle.blackboard.specs.Board.{stop_at, board_marks, drawn_lines}

-- a ledger and an interval that a split has let pass
pub record OnBoard (J : ℕ) (ledger : List ℕ) : Type 0 where
  pub summed : sum ledger ≤ most_total
  pub narrow : J ≤ most_interval

-- the marks of the walk, and how many are 1
pub record BoardMarked (J start : ℕ) (ledger : List ℕ) (drawn : ℕ) (marks' : List ℕ) : Type 0 where
  pub marks : marks' ≡ board_marks J start ledger
  pub count : drawn ≡ drawn_lines (board_marks J start ledger)

-- with a start, and errors beside the ledger
pub record ToAdd (J start : ℕ) (ledger : List ℕ) (errors : List ℤ) : Type 0 where
  pub board : OnBoard J ledger
  pub few : length ledger ≤ most_lines
  pub same : length errors ≡ length ledger
  pub early : start ≤ J

-- the mark of a line, while the counting stops at the line `stop`
abbrev pub mark_where : ℕ → ℕ → ℕ → ℕ → ℕ
mark_where J value line stop = pick (ltb J value) 2 (pick (eqb line stop) 1 0)

-- where the walk stands at a point
abbrev pub walker_at : ℕ → List ℕ → ℕ → Walker
walker_at J ledger point = record { point = point; stop = stop_at J ledger point }

-- where it stands after a line: at the next point, where it stopped at that line
abbrev pub walker_after : ℕ → List ℕ → Walker → ℕ → Walker
walker_after J ledger at line = pick (eqb line at.stop) (walker_at J ledger (at.point + J)) at

-- there is room in the sums of a kind for what a line gives by its mark
pub record SumRoom (J : ℕ) (sums : BoardSums) (mark value : ℕ) : Type 0 where
  pub narrow : J ≤ most_interval
  pub full : sums.full + value < 2 ^ 64
  pub sampled : sums.sampled + J < 2 ^ 64
  pub m : sums.m + 1 < 2 ^ 64
  pub some : mark ≡ 1 → (0 < value) × (value ≤ J)

-- in those of both kinds
pub record KindsRoom (J : ℕ) (kinds : BoardKinds) (mark value : ℕ) : Type 0 where
  pub over : SumRoom J kinds.over mark value
  pub under : SumRoom J kinds.under mark value

-- both sums of a kind, added, are an amount with a sign
pub record SmallSums (sums : BoardSums) : Type 0 where
  pub small : sums.full + sums.sampled ≤ most_size false
