-- Demand 3, over the answers of the draw and the projection, for each kind of error by itself: a fair draw, and no error is lost in projecting.
-- Definitions: nothing is assumed.
use Rattle.std.specs.Prelude.{ℕ, ◌+◌, ◌*◌, ◌≤◌, ◌<◌, ◌≡◌, Bool, true, false, List, [], eqb, ℤ, pos, length, get_or}
use Rattle.terms.specs.Outcome.{Outcome, accepted, refused, left}
use Rattle.signed.specs.Parts.{kind_of, parts}
use Rattle.split.specs.declared.Figures.{Figures}
use Rattle.split.specs.Start.{figures_for}
use Rattle.draw.specs.Draw.{marks_at, draw_of}
use Rattle.project.specs.declared.Projection.{Projection}
use Rattle.project.specs.Project.{project_of}
use Rattle.demands.specs.Starts.{sum_below, one_if, entered, sampled_error, full_error}

-- the marks that the draw leaves in a buffer of the ledger's length
abbrev pub marks_for : List ℕ → ℕ → ℕ → List ℕ
marks_for ledger n start = left (marks_at ledger start) [] (figures_for ledger n start (length ledger))

-- the projection at a start, where the errors of drawn and full lines are entered and no others
abbrev pub projected_for : List ℕ → ℕ → List ℤ → ℕ → Outcome Projection
projected_for ledger n errors start = project_of ledger n start (entered (pos 0) (marks_for ledger n start) errors)

-- the sums of a kind
abbrev pub sampled_of : Bool → Projection → ℕ
sampled_of false projection = projection.sampled
sampled_of true projection = projection.under_sampled

abbrev pub full_of : Bool → Projection → ℕ
full_of false projection = projection.full
full_of true projection = projection.under_full

-- in an answer
abbrev pub sampled_in : Bool → Outcome Projection → ℕ
sampled_in under (accepted projection) = sampled_of under projection
sampled_in under (refused number place) = 0

abbrev pub full_in : Bool → Outcome Projection → ℕ
full_in under (accepted projection) = full_of under projection
full_in under (refused number place) = 0

-- a start that the draw accepts
abbrev pub DrawsAt : List ℕ → ℕ → ℕ → Type 0
DrawsAt ledger n start = (lines : ℕ) × (draw_of ledger n start (length ledger) ≡ accepted lines)

-- at every start, whether there is an interval or not
pub record EveryStart (ledger : List ℕ) (n : ℕ) (errors : List ℤ) (figures : Figures) : Type 0 where
  -- the draw accepts each start below J, and 0 where J is 0
  pub draws : (start : ℕ) → start < figures.interval → DrawsAt ledger n start
  pub draws_none : figures.interval ≡ 0 → DrawsAt ledger n 0
  -- at every start that the draw accepts the projection accepts too
  pub answers : (start : ℕ) → DrawsAt ledger n start → (projection : Projection) × (projected_for ledger n errors start ≡ accepted projection)
  -- and the full sum of each kind is exact
  pub exact : (under : Bool) (start : ℕ) → DrawsAt ledger n start → full_in under (projected_for ledger n errors start) ≡ full_error figures.interval ledger (parts (kind_of under) errors)

-- over the starts below J, where there is an interval, each kind by itself
pub record AllStarts (ledger : List ℕ) (n : ℕ) (errors : List ℤ) (figures : Figures) (under : Bool) : Type 0 where
  -- each sampled line is drawn in exactly as many of the starts as it has cents
  pub drawn : (item : ℕ) → item < length ledger → get_or ledger item 0 ≤ figures.interval →
      sum_below figures.interval (λ start. one_if (eqb (get_or (marks_for ledger n start) item 0) 1)) ≡ get_or ledger item 0
  -- the sampled sums of the kind, added over the starts, are at least J × the sampled lines' true error of that kind
  pub least : figures.interval * sampled_error figures.interval ledger (parts (kind_of under) errors) ≤ sum_below figures.interval (λ start. sampled_in under (projected_for ledger n errors start))
  -- and exceed it by less than the sampled lines' book value
  pub most : sum_below figures.interval (λ start. sampled_in under (projected_for ledger n errors start)) < figures.interval * sampled_error figures.interval ledger (parts (kind_of under) errors) + figures.sampled_total

-- for a ledger and n that the split accepts with these figures
pub record Demand3 (ledger : List ℕ) (n : ℕ) (errors : List ℤ) (figures : Figures) : Type 0 where
  pub every_start : EveryStart ledger n errors figures
  pub all_starts : 0 < figures.interval → (under : Bool) → AllStarts ledger n errors figures under
