-- What the sharing out is given, and what its first step gives. Definitions: nothing is assumed.
use Rattle.std.specs.Prelude.{◌≡◌, List, ℕ, ◌+◌, ◌^◌, ◌≤◌, ◌<◌}
use Rattle.terms.specs.Limits.{most_total}
use Rattle.terms.specs.Numbers.{sum}
use Rattle.shares.specs.declared.Portions.{Portions}
use Rattle.shares.specs.Shares.{with_value, remainders_of, draws_of, leftover_of}

-- book values with their total, and draws enough for each stratum with value
pub record Shareable (books : List ℕ) (total n : ℕ) : Type 0 where
  pub added : total ≡ sum books
  pub some : 0 < total
  pub most : total ≤ most_total
  pub enough : with_value books ≤ n

-- one of the book values with their total, and what n leaves once each stratum with value has one
pub record Portionable (book total rest : ℕ) : Type 0 where
  pub within : book ≤ total
  pub some : 0 < total
  pub most : total ≤ most_total
  pub room : rest + 1 < 2 ^ 64

-- the strata before any leftover draw
pub record PortionsOf (books : List ℕ) (n : ℕ) (portions : Portions) : Type 0 where
  pub draws : portions.draws ≡ draws_of books n
  pub remainders : portions.remainders ≡ remainders_of books n
  pub leftover : portions.leftover ≡ leftover_of books n
