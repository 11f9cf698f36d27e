-- Starts by computation: three strata of which the second has no interval, words that run out at the last stratum, and no word where none is read. Assumes nothing.
use mathlib.Core.Path.{◌≡◌, refl}
use mathlib.Core.List.{[], ◌∷◌}
use Prim.Native.Nat.{ℕ}
use Rattle.terms.specs.Outcome.{accepted, refused}
use Rattle.start.specs.declared.Chosen.{Chosen}
use Rattle.start.specs.Start.{tried, first_from, start_of}
use Rattle.strata.specs.declared.Row.{Row}
use Rattle.strata.specs.Strata.{no_row}
use Rattle.starts.specs.Starts.{chosen_from, starts_of}

-- a stratum with this interval
abbrev row : ℕ → Row
row J = record { draws = 1; figures = record { interval = J; draws_left = 1; sampled_total = J; full_lines = 0; full_total = 0 } }

abbrev chosen : ℕ → ℕ → Chosen
chosen start words = record { start = start; words = words }

pub worked : (starts_of (row 40 ∷ no_row ∷ row 30 ∷ []) (63 ∷ 25 ∷ 31 ∷ 62 ∷ 29 ∷ []) ≡ accepted (chosen 25 2 ∷ chosen 0 0 ∷ chosen 29 3 ∷ []))
    × (starts_of (row 40 ∷ no_row ∷ row 30 ∷ []) (63 ∷ 25 ∷ 31 ∷ []) ≡ refused 12 3) × (starts_of (row 1 ∷ no_row ∷ []) [] ≡ accepted (chosen 0 0 ∷ chosen 0 0 ∷ []))
    × (starts_of (row 2 ∷ row 1 ∷ []) [] ≡ refused 12 0)
unfolding tried first_from start_of chosen_from starts_of
worked = (refl, refl, refl, refl)
