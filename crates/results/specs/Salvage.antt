-- What C sees of the salvage: an old Z by a number and its figures, all 0 where there is none. Definitions: nothing is assumed.
use Rattle.std.specs.Prelude.{ℕ, Option, Some, None}
use Rattle.terms.specs.Outcome.{Outcome}
use Rattle.salvaging.specs.declared.{OldEnd.OldEnd, Salvaged.Salvaged}
use Rattle.results.specs.declared.SalvageResult.{SalvageResult}
use Rattle.results.specs.Seen.{number_seen, place_seen, seen}

-- whether there is an old Z, its count and its sum
unfoldable pub old_there : Option OldEnd → ℕ
old_there (Some end) = 1
old_there None = 0

unfoldable pub old_count : Option OldEnd → ℕ
old_count (Some end) = end.count
old_count None = 0

unfoldable pub old_sum : Option OldEnd → ℕ
old_sum (Some end) = end.sum
old_sum None = 0

abbrev pub salvage_seen : Outcome Salvaged → SalvageResult
salvage_seen o =
    record {
      refusal = number_seen o;
      place = place_seen o;
      length = seen (λ s. s.length) o;
      kept = seen (λ s. s.kept) o;
      dropped = seen (λ s. s.dropped) o;
      lines = seen (λ s. s.lines) o;
      sum = seen (λ s. s.sum) o;
      old = seen (λ s. old_there s.old) o;
      old_lines = seen (λ s. old_count s.old) o;
      old_sum = seen (λ s. old_sum s.old) o;
    }
