-- What is promised beyond the equations: while a summary agrees with its ledger, a change and an append keep it so, and what they refuse is what the
-- ledger alone would have refused. Definitions: nothing is assumed.
use Rattle.std.specs.Prelude.{ℕ, ◌+◌, ◌≤◌, ◌<◌, ◌≡◌, List, length, get_or, set}
use Rattle.terms.specs.Outcome.{accepted}
use Rattle.terms.specs.Numbers.{sum}
use Rattle.terms.specs.Limits.{most_lines, most_value, most_total}
use Rattle.totals.specs.Summary.{in_use, Agrees}
use Rattle.upkeep.specs.declared.NewFigures.{NewFigures}
use Rattle.upkeep.specs.Upkeep.{change_of, append_of, line_set, figures_set}

pub record Kept (room : List ℕ) (count : ℕ) (summary : List ℕ) : Type 0 where
  -- a change keeps it, and answers the sum of the changed lines
  pub change : (line value : ℕ) (new : NewFigures) → change_of room count summary line value ≡ accepted new →
      Agrees (line_set room line value new) count (figures_set (length room) summary line new)
  pub change_total : (line value : ℕ) (new : NewFigures) → change_of room count summary line value ≡ accepted new → new.grand ≡ sum (in_use (set room line value) count)
  -- an append keeps it, for one line more
  pub append : (value : ℕ) (new : NewFigures) → append_of room count summary value ≡ accepted new →
      Agrees (line_set room count value new) (count + 1) (figures_set (length room) summary count new)
  -- a value and a new total within their limits are taken: never 31
  pub change_taken : count ≤ most_lines → count ≤ length room → (line value : ℕ) → line < count → value ≤ most_value →
      sum (in_use room count) + value ≤ most_total + get_or room line 0 → (new : NewFigures) × (change_of room count summary line value ≡ accepted new)
  pub append_taken : count < most_lines → count < length room → (value : ℕ) → value ≤ most_value → sum (in_use room count) + value ≤ most_total →
      (new : NewFigures) × (append_of room count summary value ≡ accepted new)
