-- What is promised beyond the equations: what a summary that agrees answers, and what the check decides. Definitions: nothing is assumed.
use Rattle.std.specs.Prelude.{ℕ, ◌≤◌, ◌<◌, ◌≡◌, List, ◌↔◌, Option, Some, None}
use Rattle.terms.specs.Outcome.{accepted, refused}
use Rattle.terms.specs.Numbers.{sum}
use Rattle.totals.specs.Summary.{in_use, summary_for, Agrees, grand_total_of}
use Rattle.totals.specs.Lookup.{find_of, line_holding, HoldsCent}
use Rattle.totals.specs.Comparison.{compared_of, FirstWrong}

-- total and line are those of the ledger alone
pub record LedgerAlone (room : List ℕ) (count : ℕ) (summary : List ℕ) : Type 0 where
  pub total : grand_total_of room count summary ≡ accepted (sum (in_use room count))
  pub found : (cent : ℕ) → cent < sum (in_use room count) → find_of room count summary cent ≡ accepted (line_holding (in_use room count) cent)
  pub past : (cent : ℕ) → sum (in_use room count) ≤ cent → find_of room count summary cent ≡ refused 20 0
  -- a line is answered exactly where it holds the cent in the whole ledger
  pub holds : (cent line : ℕ) → (find_of room count summary cent ≡ accepted line) ↔ HoldsCent (in_use room count) cent line

-- a check that is not refused finds no wrong figure exactly where the summary agrees, and else names the first wrong figure, the grand total last
pub record CheckDecides (room : List ℕ) (count : ℕ) (summary : List ℕ) : Type 0 where
  pub right : (found : Option ℕ) → compared_of room count summary ≡ accepted found → (found ≡ None) ↔ Agrees room count summary
  pub wrong : (block : ℕ) → compared_of room count summary ≡ accepted (Some block) → FirstWrong (summary_for room count) summary block
