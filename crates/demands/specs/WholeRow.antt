-- Totals beside the ledger and the row: document 02's K1. At an interval that no line in use is above, no line is full, and the row is the whole, unsplit
-- ledger: what a summary that agrees finds is the row's own item. Definitions: nothing is assumed.
use Rattle.std.specs.Prelude.{ℕ, ◌≤◌, ◌<◌, ◌≡◌, List, length}
use Rattle.terms.specs.Outcome.{accepted}
use Rattle.terms.specs.Numbers.{AllUpTo}
use Rattle.terms.specs.Limits.{most_lines}
use Rattle.draw.specs.Row.{row_cents, item_at}
use Rattle.totals.specs.Summary.{in_use, Agrees}
use Rattle.totals.specs.Lookup.{find_of}

pub record FoundOnRow (room : List ℕ) (count : ℕ) (summary : List ℕ) (J : ℕ) : Type 0 where
  -- a line that is answered is the item that covers the cent
  pub item : (cent line : ℕ) → find_of room count summary cent ≡ accepted line → line ≡ item_at J (in_use room count) cent
  -- every cent of the row is found
  pub every : (cent : ℕ) → cent < row_cents J (in_use room count) → find_of room count summary cent ≡ accepted (item_at J (in_use room count) cent)

abbrev pub WholeRow : Type 0
WholeRow =
    (room : List ℕ) (count : ℕ) (summary : List ℕ) → Agrees room count summary → count ≤ most_lines → count ≤ length room → (J : ℕ) → AllUpTo J (in_use room count) →
    FoundOnRow room count summary J
