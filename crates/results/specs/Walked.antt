-- What the export of the projection by walking returns: the struct of the first projection, figure by figure. Definitions: nothing is assumed.
use Rattle.terms.specs.Outcome.{Outcome}
use Rattle.blackboard.specs.declared.BoardProjection.{BoardProjection}
use Rattle.results.specs.Seen.{number_seen, place_seen, seen, signed_seen}
use Rattle.results.specs.declared.ProjectResult.{ProjectResult}

abbrev pub board_project_seen : Outcome BoardProjection → ProjectResult
board_project_seen o =
    record {
      refusal = number_seen o;
      place = place_seen o;
      full = seen (λ p. p.full) o;
      sampled = seen (λ p. p.sampled) o;
      m = seen (λ p. p.m) o;
      under_full = seen (λ p. p.under_full) o;
      under_sampled = seen (λ p. p.under_sampled) o;
      net = signed_seen (λ p. p.net) o;
    }
