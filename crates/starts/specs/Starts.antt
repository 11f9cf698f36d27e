-- The starts of the strata from the words in their order, one stratum after the other. Definitions: nothing is assumed.
use Rattle.std.specs.Prelude.{ℕ, ◌+◌, ◌≡◌, List, [], ◌∷◌, map, length, drop, Result}
use Rattle.terms.specs.Outcome.{Outcome, accepted, refused, after, says}
use Rattle.terms.specs.declared.Refusal.{Refusal}
use Rattle.terms.specs.Numbers.{pad_to}
use Rattle.terms.specs.Limits.{most_strata}
use Rattle.start.specs.declared.Chosen.{Chosen}
use Rattle.start.specs.Start.{start_of}
use Rattle.strata.specs.declared.Row.{Row}
use Rattle.starts.specs.declared.Starts.{Starts}

-- a stratum's start, or 12 with all the words lent: an interval of a plan is refused for nothing else (`twelve_alone` of proofs/Laws.antt)
abbrev pub lent_in : ℕ → Outcome Chosen → Outcome Chosen
lent_in lent (accepted chosen) = accepted chosen
lent_in lent (refused number place) = refused 12 lent

-- from a stratum on, with so many words read before it: its start is chosen from the words after those
unfoldable pub chosen_from : ℕ → List ℕ → List Row → Outcome (List Chosen)
unfolding start_of
chosen_from read words [] = accepted []
chosen_from read words (row ∷ later) =
    after (λ chosen. after (λ others. accepted (chosen ∷ others)) (chosen_from (read + chosen.words) words later))
    (lent_in (length words) (start_of row.figures.interval (drop read words)))

-- of all strata
unfoldable pub starts_of : List Row → List ℕ → Outcome (List Chosen)
unfolding chosen_from
starts_of rows words = chosen_from 0 words rows

-- the starts alone, and the words that each has read
abbrev pub starts_in : List Chosen → List ℕ
starts_in all = map (λ (chosen : Chosen). chosen.start) all

abbrev pub words_in : List Chosen → List ℕ
words_in all = map (λ (chosen : Chosen). chosen.words) all

-- how many there are, the starts and the words read, all 0 past the last
abbrev pub starts_with : List Chosen → Starts
starts_with all = record { strata = length all; starts = pad_to most_strata 0 (starts_in all); words = pad_to most_strata 0 (words_in all) }

-- what `starts_of` promises; a refused call has no start
abbrev pub StartsPromise : Outcome (List Chosen) → Result Starts Refusal → Type 0
StartsPromise o r = says r ≡ after (λ all. accepted (starts_with all)) o
