-- What operations that accept have shown of a ledger in strata. Definitions: nothing is assumed.
use Rattle.std.specs.Prelude.{ℕ, suc, ◌+◌, ◌≡◌, List, [], ◌∷◌, ℤ, length, get_or, drop}
use Rattle.strata.specs.declared.Row.{Row}
use Rattle.strata.specs.Strata.{parts_of, no_row}
use Rattle.strata.specs.Steps.{Parted}
use Rattle.steps.specs.Steps.{Shown}

-- of each stratum from one's number and a line's number on, what the desk's lines ask
abbrev pub EachShown : ℕ → ℕ → List (List ℕ) → List Row → List (List ℤ) → Type 0
EachShown h first [] rows errors = Unit
EachShown h first (part ∷ later) rows errors =
    Shown first (get_or rows h no_row).figures.interval part (get_or errors 0 []) × EachShown (suc h) (first + length part) later rows (drop 1 errors)

pub record Shows (counts ledger : List ℕ) (errors : List ℤ) (rows : List Row) : Type 0 where
  pub parted : Parted ledger counts
  pub same : length errors ≡ length ledger
  pub each : EachShown 0 0 (parts_of counts ledger) rows (parts_of counts errors)
