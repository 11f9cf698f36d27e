-- More error never looks better in a ledger in strata, for the projected error: document 02's K11 with K6. There is no limit or verdict with strata.
-- Definitions: nothing is assumed.
use Rattle.std.specs.Prelude.{ℕ, ◌+◌, ◌≤◌, ◌<◌, ◌≡◌, List, ℤ, length, get_or, take}
use Rattle.terms.specs.Outcome.{Outcome, accepted, refused}
use Rattle.terms.specs.Numbers.{sum}
use Rattle.stratified.specs.declared.projection.ProjectionRow.{ProjectionRow}
use Rattle.stratified.specs.Projection.{no_projection, project_strata_of, over_all}
use Rattle.demands.specs.MoreError.{OneChanged, OneRaised, NoneLowered}

-- a stratum's two rows: draws and J are the same, and neither sum of the overstatements is lower in the second
pub record RowNoBetter (before now : ProjectionRow) : Type 0 where
  pub draws : before.draws ≡ now.draws
  pub interval : before.interval ≡ now.interval
  pub full : before.full ≤ now.full
  pub sampled : before.sampled ≤ now.sampled

-- the second projection looks no better than the first, in each stratum and over all
pub record StrataNoBetter (before now : List ProjectionRow) : Type 0 where
  pub strata : length before ≡ length now
  pub each : (h : ℕ) → RowNoBetter (get_or before h no_projection) (get_or now h no_projection)
  pub projected : over_all before ≤ over_all now

-- a line of the whole ledger is of the stratum h
pub record LineOf (counts : List ℕ) (h line : ℕ) : Type 0 where
  pub from : sum (take h counts) ≤ line
  pub to : line < sum (take h counts) + get_or counts h 0

-- what a projection by strata can answer once one finding is changed: 14 or 15 at its line are all that it can earn
pub data CanProject (line : ℕ) : Outcome (List ProjectionRow) → Type 0 where
  projected : {now : List ProjectionRow} → CanProject line (accepted now)
  too_large : CanProject line (refused 14 line)
  not_drawn : CanProject line (refused 15 line)

-- with ledger, counts, n and starts fixed
pub record MoreErrorStrata (ledger counts : List ℕ) (n : ℕ) (starts : List ℕ) : Type 0 where
  -- one finding changed, up or down
  pub changed : (line : ℕ) (before now : List ℤ) → length now ≡ length before → OneChanged line before now → (p : List ProjectionRow) →
      project_strata_of ledger counts n starts before ≡ accepted p → CanProject line (project_strata_of ledger counts n starts now)
  -- where both are accepted, no row moves but that of its stratum
  pub elsewhere : (line : ℕ) (before now : List ℤ) → OneChanged line before now → (p q : List ProjectionRow) →
      project_strata_of ledger counts n starts before ≡ accepted p → project_strata_of ledger counts n starts now ≡ accepted q →
      (h : ℕ) → ¬ LineOf counts h line → get_or p h no_projection ≡ get_or q h no_projection
  -- one finding raised
  pub one : (line : ℕ) (before now : List ℤ) → OneRaised line before now → (p q : List ProjectionRow) →
      project_strata_of ledger counts n starts before ≡ accepted p → project_strata_of ledger counts n starts now ≡ accepted q → StrataNoBetter p q
  -- any number of findings raised
  pub several : (before now : List ℤ) → NoneLowered before now → (p q : List ProjectionRow) →
      project_strata_of ledger counts n starts before ≡ accepted p → project_strata_of ledger counts n starts now ≡ accepted q → StrataNoBetter p q
