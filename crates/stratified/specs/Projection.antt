-- The projection by strata, as document 02, K6, has it: each stratum by itself, and the sums over the strata. Definitions: nothing is assumed.
use Rattle.std.specs.Prelude.{ℕ, ◌+◌, ◌*◌, ◌≤◌, ◌≡◌, List, [], ◌∷◌, map, ℤ, pos, ◌-ℤ◌, length, get_or, drop, Result, IfOk}
use Rattle.terms.specs.Outcome.{Outcome, accepted, after, says}
use Rattle.terms.specs.declared.Refusal.{Refusal}
use Rattle.terms.specs.Limits.{most_total, most_strata}
use Rattle.terms.specs.Numbers.{sum, pad_to}
use Rattle.project.specs.declared.Projection.{Projection}
use Rattle.project.specs.Project.{projection_at}
use Rattle.strata.specs.declared.Row.{Row}
use Rattle.strata.specs.Strata.{parts_of, no_row}
use Rattle.strata.specs.Starts.{started_of}
use Rattle.stratified.specs.declared.{projection.ProjectionRow.ProjectionRow, projection.ProjectedStrata.ProjectedStrata, totals.Totals.Totals}

-- a stratum's row: its draws, J, and both sums of each kind
abbrev pub projection_row : Row → Projection → ProjectionRow
projection_row row sums =
    record {
      draws = row.draws;
      interval = row.figures.interval;
      full = sums.full;
      sampled = sums.sampled;
      under_full = sums.under_full;
      under_sampled = sums.under_sampled;
    }

abbrev pub no_projection : ProjectionRow
no_projection = record { draws = 0; interval = 0; full = 0; sampled = 0; under_full = 0; under_sampled = 0 }

-- stratum by stratum, from a line's number in the whole ledger: each stratum's lines and errors at its own interval and start
unfoldable pub projected_from : ℕ → List (List ℕ) → List Row → List ℕ → List (List ℤ) → Outcome (List ProjectionRow)
unfolding projection_at
projected_from first [] rows starts errors = accepted []
projected_from first (part ∷ later) rows starts errors =
    after (λ sums. after (λ others. accepted (projection_row (get_or rows 0 no_row) sums ∷ others)) (projected_from (first + length part) later (drop 1 rows) (drop 1 starts) (drop 1 errors)))
    (projection_at first (get_or rows 0 no_row).figures.interval (get_or starts 0 0) part (get_or errors 0 []))

-- after the refusals of the plan and of the starts
unfoldable pub project_strata_of : List ℕ → List ℕ → ℕ → List ℕ → List ℤ → Outcome (List ProjectionRow)
unfolding projected_from parts_of started_of
project_strata_of ledger counts n starts errors =
    after (λ rows. projected_from 0 (parts_of counts ledger) rows starts (parts_of counts errors)) (started_of ledger counts n starts (length errors))

-- the projected error of each kind: a stratum's, and the sum over the strata
abbrev pub over_of : ProjectionRow → ℕ
over_of row = row.full + row.sampled

abbrev pub under_of : ProjectionRow → ℕ
under_of row = row.under_full + row.under_sampled

unfoldable pub over_all : List ProjectionRow → ℕ
over_all rows = sum (map over_of rows)

unfoldable pub under_all : List ProjectionRow → ℕ
under_all rows = sum (map under_of rows)

-- how many rows there are, the projected error of each kind, the net, and the rows; past the last there is none
abbrev pub sums_with : List ProjectionRow → ProjectedStrata
sums_with rows =
    record {
      strata = length rows;
      over = over_all rows;
      under = under_all rows;
      net = pos (over_all rows) -ℤ pos (under_all rows);
      rows = pad_to most_strata no_projection rows;
    }

-- what `project_strata` promises; where the call is refused, there is none
abbrev pub ProjectStrataPromise : Outcome (List ProjectionRow) → Result ProjectedStrata Refusal → Type 0
ProjectStrataPromise o r = says r ≡ after (λ rows. accepted (sums_with rows)) o

-- a stratum's sums of a kind are at most its lines, its row, and one interval
abbrev pub most_of : ℕ
most_of = 3 * most_total

pub record Smalls (rows : List ProjectionRow) : Type 0 where
  pub over : (h : ℕ) → over_of (get_or rows h no_projection) ≤ most_of
  pub under : (h : ℕ) → under_of (get_or rows h no_projection) ≤ most_of

-- what rows add to, within bounds that keep a sign's bit free
pub record TotalsOf (rows : List ProjectionRow) (t : Totals) : Type 0 where
  pub over : t.over ≡ over_all rows
  pub under : t.under ≡ under_all rows
  pub over_most : t.over ≤ most_of * most_strata
  pub under_most : t.under ≤ most_of * most_strata

-- the walk over the strata, and that its rows are small
pub record Walked (o : Outcome (List ProjectionRow)) (r : Result (List ProjectionRow) Refusal) : Type 0 where
  pub answer : says r ≡ after (λ rows. accepted (pad_to most_strata no_projection rows)) o
  pub small : IfOk r (λ rows. Smalls rows)

-- so many rows in an array, with what they add to
abbrev pub with_totals : ℕ → List ProjectionRow → ProjectedStrata
with_totals strata rows =
    record {
      strata = strata;
      over = over_all rows;
      under = under_all rows;
      net = pos (over_all rows) -ℤ pos (under_all rows);
      rows = rows;
    }
