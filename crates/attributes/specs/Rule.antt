-- The rule of both tables, in whole numbers: a chance is multiplied by whole ^ n, so that nothing is divided. Definitions: nothing is assumed.
use Rattle.std.specs.Prelude.{ℕ, zero, suc, ◌+◌, ◌-◌, ◌*◌, ◌^◌, ◌≤◌, ◌<◌}

-- in how many ways i of n items can be the exceptions: the last item is in order, or it is one of them
unfoldable pub ways : ℕ → ℕ → ℕ
ways n zero = 1
ways zero (suc i) = 0
ways (suc n) (suc i) = ways n (suc i) + ways n i

-- The binomial chance of exactly i exceptions among n items, times (bad + good) ^ n. Of every bad + good items bad are exceptions.
unfoldable pub exactly : ℕ → ℕ → ℕ → ℕ → ℕ
exactly bad good n i = ways n i * (bad ^ i * good ^ (n - i))

-- the same of so few: of x exceptions, or fewer
unfoldable pub so_few : ℕ → ℕ → ℕ → ℕ → ℕ
so_few bad good n zero = exactly bad good n 0
so_few bad good n (suc x) = so_few bad good n x + exactly bad good n (suc x)

-- so few have a chance of at most (100 - level) percent, where `share` parts of the whole are exceptions
unfoldable pub Unlikely : ℕ → ℕ → ℕ → ℕ → ℕ → Type 0
Unlikely whole level n x share = so_few share (whole - share) n x * 100 ≤ (100 - level) * whole ^ n

-- n items are enough, in K10's words: (100 - tolerance)^n × 100 is at most (100 - level) × 100^n
unfoldable pub Enough : ℕ → ℕ → ℕ → Type 0
Enough level tolerance n = (100 - tolerance) ^ n * 100 ≤ (100 - level) * 100 ^ n

-- v is the least number with a property
pub record Least (P : ℕ → Type 0) (v : ℕ) : Type 0 where
  pub has : P v
  pub none_below : (w : ℕ) → w < v → ¬ P w
