-- What the steps of the plan are given. Definitions: nothing is assumed.
use Rattle.std.specs.Prelude.{◌≡◌, List, ℕ, ◌≤◌, ◌<◌, length, get_or}
use Rattle.terms.specs.Limits.{most_total, most_strata}
use Rattle.terms.specs.Numbers.{sum, pad_to}
use Rattle.strata.specs.Strata.{parts_of, books_of}

-- line counts, not too many, that add to the lines of a ledger whose total is within its limit
pub record Parted (ledger counts : List ℕ) : Type 0 where
  pub few : length counts ≤ most_strata
  pub add : sum counts ≡ length ledger
  pub most : sum ledger ≤ most_total

-- with the total, which is not 0
pub record Judged (ledger counts : List ℕ) (total : ℕ) : Type 0 where
  pub parted : Parted ledger counts
  pub added : total ≡ sum ledger
  pub some : 0 < total

-- the strata's book values and their shares: one at least for a stratum with value
pub record Sharing (ledger counts books draws : List ℕ) : Type 0 where
  pub parted : Parted ledger counts
  pub values : books ≡ pad_to most_strata 0 (books_of (parts_of counts ledger))
  pub shared : (h : ℕ) → 0 < get_or books h 0 → 0 < get_or draws h 0
