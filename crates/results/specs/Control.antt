-- What C sees of the attribute job aid. Definitions: nothing is assumed.
use Rattle.std.specs.Prelude.{ℕ}
use Rattle.terms.specs.Outcome.{Outcome}
use Rattle.results.specs.declared.{AttributeSizeResult.AttributeSizeResult, AttributeBoundResult.AttributeBoundResult}
use Rattle.results.specs.Seen.{number_seen, place_seen, seen}

abbrev pub items_seen : Outcome ℕ → AttributeSizeResult
items_seen o = record { refusal = number_seen o; place = place_seen o; items = seen (λ items. items) o }

abbrev pub bound_seen : Outcome ℕ → AttributeBoundResult
bound_seen o = record { refusal = number_seen o; place = place_seen o; hundredths = seen (λ hundredths. hundredths) o }
