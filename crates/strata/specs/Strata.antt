-- The plan of a ledger in strata, as document 02, K6, has it. A list holds the strata's line counts, in ledger order. Definitions: nothing is assumed.
use Rattle.std.specs.Prelude.{ℕ, ◌≡◌, Result, Bool, List, [], ◌∷◌, map, ltb, eqb, length, get_or, take, drop}
use Rattle.terms.specs.Outcome.{Outcome, accepted, refused, after, says}
use Rattle.terms.specs.declared.Refusal.{Refusal}
use Rattle.terms.specs.Numbers.{pick, sum, pad_to}
use Rattle.terms.specs.Limits.{most_strata}
use Rattle.ledger.specs.Ledger.{ledger_with}
use Rattle.split.specs.Rounds.{rounds, split_lines}
use Rattle.split.specs.Split.{figures_of}
use Rattle.shares.specs.Shares.{with_value, shares_of}
use Rattle.strata.specs.declared.{Row.Row, Planned.Planned}

-- the strata of a list that stands beside the ledger, or of the ledger itself: each takes as many lines as it counts
unfoldable pub parts_of : {A : Type 0} → List ℕ → List A → List (List A)
parts_of [] lines = []
parts_of (count ∷ counts) lines = take count lines ∷ parts_of counts (drop count lines)

-- their book values
unfoldable pub books_of : List (List ℕ) → List ℕ
books_of parts = map sum parts

-- a stratum without book value gets no draw, and has J 0
abbrev pub no_row : Row
no_row = record { draws = 0; figures = record { interval = 0; draws_left = 0; sampled_total = 0; full_lines = 0; full_total = 0 } }

-- any other is its own ledger, with its own split
unfoldable pub row_of : List ℕ → ℕ → Row
unfolding rounds
row_of part draws = pick (eqb (sum part) 0) no_row (record { draws = draws; figures = figures_of part (split_lines part draws) })

-- stratum by stratum
unfoldable pub rows_of : List (List ℕ) → List ℕ → List Row
unfolding row_of
rows_of [] draws = []
rows_of (part ∷ later) draws = row_of part (get_or draws 0 0) ∷ rows_of later (drop 1 draws)

-- 8 where there are no draws, 23 where they are fewer than the strata with value, or the rows at the shares
unfoldable pub plan_from : List (List ℕ) → ℕ → Outcome (List Row)
unfolding books_of rows_of shares_of
plan_from parts n =
    pick (eqb n 0) (refused 8 0) (pick (ltb n (with_value (books_of parts))) (refused 23 0) (accepted (rows_of parts (shares_of (books_of parts) n))))

-- before it 22, 30, and the refusals of the whole ledger; `same` says whether the lists that are lent have their lengths
unfoldable pub checked_of : List ℕ → List ℕ → Bool → Outcome ℕ
unfolding ledger_with
checked_of ledger counts same =
    pick (eqb (length counts) 0) (refused 22 0)
    (pick (ltb most_strata (length counts)) (refused 22 0) (pick (eqb (sum counts) (length ledger)) (ledger_with ledger same) (refused 30 0)))

unfoldable pub plan_of : List ℕ → List ℕ → ℕ → Bool → Outcome (List Row)
unfolding parts_of plan_from checked_of
plan_of ledger counts n same = after (λ total. plan_from (parts_of counts ledger) n) (checked_of ledger counts same)

-- how many they are, and the rows themselves; past the last there is none
abbrev pub plan_with : List Row → Planned
plan_with rows = record { strata = length rows; rows = pad_to most_strata no_row rows }

-- what is promised of an outcome's rows; where the call is refused, there is none
abbrev pub PlanPromise : Outcome (List Row) → Result Planned Refusal → Type 0
PlanPromise o r = says r ≡ after (λ rows. accepted (plan_with rows)) o
