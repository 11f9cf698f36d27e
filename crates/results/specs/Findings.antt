-- What C sees of posting findings, singly or by the batch. Definitions: nothing is assumed.
use Rattle.std.specs.Prelude.{ℕ}
use Rattle.terms.specs.Outcome.{Outcome}
use Rattle.results.specs.declared.PostResult.{PostResult}
use Rattle.results.specs.Seen.{number_seen, place_seen, seen}

abbrev pub post_seen : Outcome ℕ → PostResult
post_seen o = record { refusal = number_seen o; place = place_seen o; posted = seen (λ posted. posted) o }
