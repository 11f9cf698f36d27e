-- The parts of the salvage: where the reader's first pass has stopped, and the records that it passed. Definitions: nothing is assumed.
use Rattle.std.specs.Prelude.{ℕ, ◌+◌, ◌-◌, ◌*◌, ◌/◌, ◌≤◌, ◌≡◌, true, List}
use Rattle.workfile.specs.Decode.{has_plan, stop_in}
use Rattle.workfile.specs.declared.Tally.{Tally}
use Rattle.reader.specs.Steps.{stopped_at}
use Rattle.reader.specs.declared.Stopped.{Stopped}

-- the records of a run: P of 18 bytes, W and L of 9, E and U of 13
unfoldable pub kept_by : ℕ → Tally → ℕ
kept_by at t = 1 + (t.words + t.lines) + (at - 18 - 9 * (t.words + t.lines)) / 13

-- a run that ends there has room for what was counted
pub record Counted (at : ℕ) (t : Tally) : Type 0 where
  pub room : 18 + 9 * (t.words + t.lines) ≤ at
  pub short : at ≤ 45650

-- a whole P stands first, and the pass has stopped where its run ends
pub record Ended (f : List ℕ) (s : Stopped) : Type 0 where
  pub plan : has_plan f ≡ true
  pub is : s ≡ stopped_at f (stop_in f)
