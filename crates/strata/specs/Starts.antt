-- The starts of the strata: refusals 13 and 11 by strata, and what the draw and the projection begin with. Definitions: nothing is assumed.
use Rattle.std.specs.Prelude.{ℕ, suc, Bool, false, List, [], ◌∷◌, eqb, length, get_or, drop}
use Rattle.terms.specs.Outcome.{Outcome, accepted, refused, after}
use Rattle.terms.specs.Numbers.{pick}
use Rattle.split.specs.Start.{start_fits}
use Rattle.strata.specs.declared.Row.{Row}
use Rattle.strata.specs.Strata.{no_row, plan_of}

-- what is lent beside the ledger has its lines, and the starts are as many as the strata
abbrev pub agree : ℕ → ℕ → ℕ → ℕ → Bool
agree beside lines starts strata = pick (eqb beside lines) (eqb starts strata) false

-- from a stratum on, each start against the interval of its own row: how many strata there are, or 11 with the first whose start does not fit
unfoldable pub starts_from : ℕ → List Row → List ℕ → Outcome ℕ
starts_from h rows [] = accepted h
starts_from h rows (start ∷ later) = pick (start_fits start (get_or rows 0 no_row).figures.interval) (starts_from (suc h) (drop 1 rows) later) (refused 11 h)

-- the rows, where each start fits
abbrev pub rows_started : List ℕ → List Row → Outcome (List Row)
rows_started starts rows = after (λ strata. accepted rows) (starts_from 0 rows starts)

-- after the refusals of the plan; `beside` is the length of what is lent with the ledger
unfoldable pub started_of : List ℕ → List ℕ → ℕ → List ℕ → ℕ → Outcome (List Row)
unfolding plan_of starts_from
started_of ledger counts n starts beside = after (rows_started starts) (plan_of ledger counts n (agree beside (length ledger) (length starts) (length counts)))
