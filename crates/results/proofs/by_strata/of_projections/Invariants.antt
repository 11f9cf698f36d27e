-- The rows before h are shown. Assumes nothing.
use Rattle.results.specs.Strata.{stratum_projection_seen}
use Rattle.results.proofs.Rows.{Showing}
use Rattle.results.proofs.by_strata.of_projections.Given as goal

abbrev pub invariant-loop-h : goal.invariant-loop-h
invariant-loop-h l = Showing stratum_projection_seen l.row-items l.shown l.h
