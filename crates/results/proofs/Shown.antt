-- What C sees of a projection by walking, of one by strata and of a judgement, from what the code makes of the answer. Assumes nothing.
use mathlib.Core.Path.{◌≡◌, sym, ap, ◌∙◌}
use mathlib.Core.List.{List, [], map}
use Prim.Native.Nat.{ℕ}
use lib.IntN.{pos}
use Rattle.std.specs.Prelude.{Result, Ok, Err}
use Rattle.std.specs.Result.{result_unwrap_or}
use Rattle.terms.specs.declared.Refusal.{Refusal}
use Rattle.terms.specs.Outcome.{left, says}
use Rattle.blackboard.specs.declared.BoardProjection.{BoardProjection}
use Rattle.judge.specs.declared.Judgement.{Judgement}
use Rattle.stratified.specs.declared.projection.ProjectedStrata.{ProjectedStrata}
use Rattle.stratified.specs.Projection.{sums_with}
use Rattle.results.specs.declared.{ProjectResult.ProjectResult, JudgeResult.JudgeResult, StratumProjection.StratumProjection, StrataProjectResult.StrataProjectResult}
use Rattle.results.specs.Seen.{number_seen, place_seen}
use Rattle.results.specs.Results.{verdict_number, judge_seen}
use Rattle.results.specs.Walked.{board_project_seen}
use Rattle.results.specs.Strata.{stratum_projection_seen, strata_project_seen}

-- the results as they are made
abbrev walked_with : ℕ → ℕ → BoardProjection → ProjectResult
walked_with number place p =
    record {
      refusal = number;
      place = place;
      full = p.full;
      sampled = p.sampled;
      m = p.m;
      under_full = p.under_full;
      under_sampled = p.under_sampled;
      net = p.net;
    }

abbrev judged_with : Judgement → ℕ → JudgeResult
judged_with j verdict =
    record {
      refusal = 0;
      place = 0;
      full = j.projection.full;
      sampled = j.projection.sampled;
      m = j.projection.m;
      under_full = j.projection.under_full;
      under_sampled = j.projection.under_sampled;
      net = j.projection.net;
      precision = j.precision;
      upper_limit = j.upper_limit;
      verdict = verdict;
    }

abbrev strata_with : ℕ → ℕ → ProjectedStrata → List StratumProjection → StrataProjectResult
strata_with number place p stratum = record { refusal = number; place = place; over = p.over; under = p.under; net = p.net; strata = p.strata; stratum = stratum }

-- no projection
abbrev none_walked : BoardProjection
none_walked = record { full = 0; sampled = 0; m = 0; under_full = 0; under_sampled = 0; net = pos 0 }

pub walked_shown : (answer : Result BoardProjection Refusal) {number place : ℕ} (p : BoardProjection) → number ≡ number_seen (says answer) → place ≡ place_seen (says answer)
    → p ≡ result_unwrap_or answer none_walked → walked_with number place p ≡ board_project_seen (says answer)
walked_shown (Ok a) p n q e = λ i. walked_with (n i) (q i) (e i)
walked_shown (Err why) p n q e = λ i. walked_with (n i) (q i) (e i)

pub judgement_shown : {answer : Result Judgement Refusal} (j : Judgement) {verdict : ℕ} → answer ≡ Ok j → verdict ≡ verdict_number j.verdict
    → judged_with j verdict ≡ judge_seen (says answer)
judgement_shown j told is = ap (judged_with j) is ∙ sym (ap (λ (a : Result Judgement Refusal). judge_seen (says a)) told)

pub strata_shown : (answer : Result ProjectedStrata Refusal) {number place : ℕ} (p : ProjectedStrata) {stratum : List StratumProjection} → number ≡ number_seen (says answer)
    → place ≡ place_seen (says answer) → p ≡ left (λ (x : ProjectedStrata). x) (sums_with []) (says answer) → stratum ≡ map stratum_projection_seen p.rows
    → strata_with number place p stratum ≡ strata_project_seen (says answer)
strata_shown answer p n q e r =
    let all = r ∙ ap (λ (x : ProjectedStrata). map stratum_projection_seen x.rows) e in λ i. strata_with (n i) (q i) (e i) (all i)
