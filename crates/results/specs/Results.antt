-- What each exported function returns, from what its operation says. Definitions: nothing is assumed.
use Rattle.std.specs.Prelude.{ℕ}
use Rattle.terms.specs.Outcome.{Outcome}
use Rattle.split.specs.declared.Figures.{Figures}
use Rattle.start.specs.declared.Chosen.{Chosen}
use Rattle.project.specs.declared.Projection.{Projection}
use Rattle.judge.specs.declared.{Judgement.Judgement, Verdict.Verdict}
use Rattle.judge.specs.declared.Verdict.TheVariants.{Below, Inconclusive, Above}
use Rattle.workfile.specs.declared.Contents.{Contents}
use Rattle.results.specs.Seen.{number_seen, place_seen, seen, signed_seen}
use Rattle.results.specs.declared.{SizeResult.SizeResult, SplitResult.SplitResult, StartResult.StartResult, DrawResult.DrawResult, ProjectResult.ProjectResult, JudgeResult.JudgeResult, ReadResult.ReadResult, WriteResult.WriteResult, SheetResult.SheetResult}

abbrev pub size_seen : Outcome ℕ → SizeResult
size_seen o = record { refusal = number_seen o; place = place_seen o; draws = seen (λ draws. draws) o }

abbrev pub split_seen : Outcome Figures → SplitResult
split_seen o =
    record {
      refusal = number_seen o;
      place = place_seen o;
      interval = seen (λ f. f.interval) o;
      draws_left = seen (λ f. f.draws_left) o;
      sampled_total = seen (λ f. f.sampled_total) o;
      full_lines = seen (λ f. f.full_lines) o;
      full_total = seen (λ f. f.full_total) o;
    }

abbrev pub start_seen : Outcome Chosen → StartResult
start_seen o = record { refusal = number_seen o; place = place_seen o; start = seen (λ chosen. chosen.start) o; words = seen (λ chosen. chosen.words) o }

abbrev pub draw_seen : Outcome ℕ → DrawResult
draw_seen o = record { refusal = number_seen o; place = place_seen o; drawn = seen (λ drawn. drawn) o }

abbrev pub project_seen : Outcome Projection → ProjectResult
project_seen o =
    record {
      refusal = number_seen o;
      place = place_seen o;
      full = seen (λ p. p.full) o;
      sampled = seen (λ p. p.sampled) o;
      m = seen (λ p. p.m) o;
      under_full = seen (λ p. p.under_full) o;
      under_sampled = seen (λ p. p.under_sampled) o;
      net = signed_seen (λ p. p.net) o;
    }

-- a verdict as a number; 0 is none of them
unfoldable pub verdict_number : Verdict → ℕ
verdict_number Below = 1
verdict_number Inconclusive = 2
verdict_number Above = 3

abbrev pub judge_seen : Outcome Judgement → JudgeResult
judge_seen o =
    record {
      refusal = number_seen o;
      place = place_seen o;
      full = seen (λ j. j.projection.full) o;
      sampled = seen (λ j. j.projection.sampled) o;
      m = seen (λ j. j.projection.m) o;
      under_full = seen (λ j. j.projection.under_full) o;
      under_sampled = seen (λ j. j.projection.under_sampled) o;
      net = signed_seen (λ j. j.projection.net) o;
      precision = seen (λ j. j.precision) o;
      upper_limit = seen (λ j. j.upper_limit) o;
      verdict = seen (λ j. verdict_number j.verdict) o;
    }

abbrev pub read_seen : Outcome Contents → ReadResult
read_seen o =
    record {
      refusal = number_seen o;
      place = place_seen o;
      level = seen (λ c. c.level) o;
      te = seen (λ c. c.te) o;
      ae = seen (λ c. c.ae) o;
      words = seen (λ c. c.words) o;
      lines = seen (λ c. c.lines) o;
    }

abbrev pub write_seen : Outcome ℕ → WriteResult
write_seen o = record { refusal = number_seen o; place = place_seen o; length = seen (λ length. length) o }

abbrev pub sheet_seen : Outcome ℕ → SheetResult
sheet_seen o = record { refusal = number_seen o; place = place_seen o; length = seen (λ length. length) o }
