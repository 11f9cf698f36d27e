-- Demand 3 of a ledger in strata (document 02, K6): each stratum by itself, over its own starts, whatever the others' starts are. Definitions: nothing is
-- assumed.
use Rattle.std.specs.Prelude.{ℕ, ◌<◌, ◌≡◌, true, List, [], ℤ, length, get_or}
use Rattle.terms.specs.Outcome.{accepted}
use Rattle.terms.specs.Numbers.{sum}
use Rattle.split.specs.Split.{split_of}
use Rattle.split.specs.Start.{start_fits}
use Rattle.draw.specs.Row.{draw_marks}
use Rattle.project.specs.declared.Projection.{Projection}
use Rattle.project.specs.Project.{project_of}
use Rattle.strata.specs.declared.Row.{Row}
use Rattle.strata.specs.Strata.{parts_of, no_row}
use Rattle.stratified.specs.declared.projection.ProjectionRow.{ProjectionRow}
use Rattle.stratified.specs.Projection.{projection_row, no_projection, project_strata_of}
use Rattle.demands.specs.Demand3.{marks_for, Demand3}

-- what a stratum has of a list beside the ledger, or of the ledger itself
abbrev pub own_of : {A : Type 0} → List ℕ → List A → ℕ → List A
own_of counts l h = get_or (parts_of counts l) h []

-- a stratum whose lines are `part`, with its row in an accepted plan
pub record OwnStarts (ledger counts : List ℕ) (n : ℕ) (errors : List ℤ) (row : Row) (h : ℕ) : Type 0 where
  -- it is its own ledger: the split of its lines with its share of the draws gives its figures
  pub split : split_of (own_of counts ledger h) row.draws (length (own_of counts ledger h)) ≡ accepted row.figures
  -- demand 3 holds of it, over its own starts
  pub demand : Demand3 (own_of counts ledger h) row.draws (own_of counts errors h) row.figures
  -- at each start that fits, the marks that the draw by strata lays on its lines are those of its own draw
  pub marks : (start : ℕ) → start_fits start row.figures.interval ≡ true → draw_marks row.figures.interval start (own_of counts ledger h) ≡ marks_for (own_of counts ledger h) row.draws start
  -- and in every projection by strata its sums are those of its own projection at its own start, whatever the others' starts and errors are
  pub sums : (starts : List ℕ) (found : List ℤ) (projected : List ProjectionRow) → project_strata_of ledger counts n starts found ≡ accepted projected →
      (own : Projection) × ((project_of (own_of counts ledger h) row.draws (get_or starts h 0) (own_of counts found h) ≡ accepted own) × (get_or projected h no_projection ≡ projection_row row own))

-- each stratum with book value
pub record Demand3Strata (ledger counts : List ℕ) (n : ℕ) (errors : List ℤ) (rows : List Row) : Type 0 where
  pub each : (h : ℕ) → 0 < sum (own_of counts ledger h) → OwnStarts ledger counts n errors (get_or rows h no_row) h
