-- What each export by strata returns, from what its operation says; the rows of a refused call are 0. Definitions: nothing is assumed.
use Rattle.std.specs.Prelude.{ℕ, [], map}
use Rattle.terms.specs.Outcome.{Outcome, left}
use Rattle.strata.specs.declared.{Row.Row, Planned.Planned}
use Rattle.strata.specs.Strata.{plan_with}
use Rattle.stratified.specs.Projection.{sums_with}
use Rattle.stratified.specs.declared.{projection.ProjectionRow.ProjectionRow, projection.ProjectedStrata.ProjectedStrata}
use Rattle.results.specs.Seen.{number_seen, place_seen, seen}
use Rattle.results.specs.declared.{StratumPlan.StratumPlan, StrataPlanResult.StrataPlanResult, StrataDrawResult.StrataDrawResult, StratumProjection.StratumProjection, StrataProjectResult.StrataProjectResult}

-- a row of the plan
abbrev pub stratum_plan_seen : Row → StratumPlan
stratum_plan_seen row =
    record {
      draws = row.draws;
      interval = row.figures.interval;
      draws_left = row.figures.draws_left;
      sampled_total = row.figures.sampled_total;
      full_lines = row.figures.full_lines;
      full_total = row.figures.full_total;
    }

-- the plan, or no strata and no row where it is refused
abbrev pub plan_left : Outcome Planned → Planned
plan_left o = left (λ plan. plan) (plan_with []) o

abbrev pub strata_plan_seen : Outcome Planned → StrataPlanResult
strata_plan_seen o = record { refusal = number_seen o; place = place_seen o; strata = (plan_left o).strata; stratum = map stratum_plan_seen (plan_left o).rows }

abbrev pub strata_draw_seen : Outcome ℕ → StrataDrawResult
strata_draw_seen o = record { refusal = number_seen o; place = place_seen o; drawn = seen (λ drawn. drawn) o }

-- a row of the projection
abbrev pub stratum_projection_seen : ProjectionRow → StratumProjection
stratum_projection_seen row =
    record {
      draws = row.draws;
      interval = row.interval;
      full = row.full;
      sampled = row.sampled;
      under_full = row.under_full;
      under_sampled = row.under_sampled;
    }

-- the projection, or no strata and no row where it is refused
abbrev pub projected_left : Outcome ProjectedStrata → ProjectedStrata
projected_left o = left (λ projected. projected) (sums_with []) o

abbrev pub strata_project_seen : Outcome ProjectedStrata → StrataProjectResult
strata_project_seen o =
    record {
      refusal = number_seen o;
      place = place_seen o;
      over = (projected_left o).over;
      under = (projected_left o).under;
      net = (projected_left o).net;
      strata = (projected_left o).strata;
      stratum = map stratum_projection_seen (projected_left o).rows;
    }
