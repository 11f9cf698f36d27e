-- What C sees of the totals beside the ledger. Definitions: nothing is assumed.
use Rattle.std.specs.Prelude.{ℕ, Option, Some, None}
use Rattle.terms.specs.Outcome.{Outcome}
use Rattle.terms.specs.declared.Item.{Item}
use Rattle.results.specs.declared.{TotalsBuildResult.TotalsBuildResult, TotalsTotalResult.TotalsTotalResult, TotalsFindResult.TotalsFindResult, TotalsChangeResult.TotalsChangeResult, TotalsAppendResult.TotalsAppendResult, TotalsCheckResult.TotalsCheckResult}
use Rattle.results.specs.Seen.{number_seen, place_seen, seen}

abbrev pub totals_build_seen : Outcome ℕ → TotalsBuildResult
totals_build_seen o = record { refusal = number_seen o; place = place_seen o; total = seen (λ total. total) o }

abbrev pub totals_total_seen : Outcome ℕ → TotalsTotalResult
totals_total_seen o = record { refusal = number_seen o; place = place_seen o; total = seen (λ total. total) o }

abbrev pub totals_find_seen : Outcome Item → TotalsFindResult
totals_find_seen o = record { refusal = number_seen o; place = place_seen o; line = seen (λ item. item.0) o }

abbrev pub totals_change_seen : Outcome ℕ → TotalsChangeResult
totals_change_seen o = record { refusal = number_seen o; place = place_seen o; total = seen (λ total. total) o }

abbrev pub totals_append_seen : Outcome ℕ → TotalsAppendResult
totals_append_seen o = record { refusal = number_seen o; place = place_seen o; count = seen (λ count. count) o }

-- 1 where a figure is wrong, and the first block whose figure is
abbrev pub wrong_seen : Option ℕ → ℕ
wrong_seen None = 0
wrong_seen (Some block) = 1

abbrev pub block_seen : Option ℕ → ℕ
block_seen None = 0
block_seen (Some block) = block

abbrev pub totals_check_seen : Outcome (Option ℕ) → TotalsCheckResult
totals_check_seen o = record { refusal = number_seen o; place = place_seen o; wrong = seen wrong_seen o; block = seen block_seen o }
