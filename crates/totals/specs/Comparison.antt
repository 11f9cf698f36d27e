-- The check: whether a summary is right, or its first wrong figure. Definitions: nothing is assumed.
use Rattle.std.specs.Prelude.{ℕ, suc, ◌<◌, ◌≡◌, List, [], ◌∷◌, eqb, length, get_or, Option, Some, None, Result}
use Rattle.terms.specs.declared.Refusal.{Refusal}
use Rattle.terms.specs.Outcome.{Outcome, accepted, after, says}
use Rattle.terms.specs.Numbers.{pick}
use Rattle.terms.specs.Limits.{most_lines}
use Rattle.ledger.specs.Ledger.{running_total}
use Rattle.totals.specs.Summary.{in_use, shape_of, summary_for}

-- the first place, from a number on, where figures are not what they should be, if there is one
unfoldable pub first_wrong : ℕ → List ℕ → List ℕ → Option ℕ
first_wrong block [] figures = None
first_wrong block (right ∷ later) [] = Some block
first_wrong block (right ∷ later) (figure ∷ figures) = let rest = first_wrong (suc block) later figures in pick (eqb figure right) rest (Some block)

-- the shape, then 3 and 4 line by line over the lines in use, or what is found
unfoldable pub compared_of : List ℕ → ℕ → List ℕ → Outcome (Option ℕ)
compared_of room count summary =
    after (λ many. after (λ total. accepted (first_wrong 0 (summary_for room count) summary)) (running_total (in_use room count)))
    (shape_of most_lines count (length room) (length summary))

-- what `check` promises
pub record CheckPromise (room : List ℕ) (count : ℕ) (summary : List ℕ) (r : Result (Option ℕ) Refusal) : Type 0 where
  pub answer : says r ≡ compared_of room count summary

-- the first place where the figures are not those that are right
pub record FirstWrong (right figures : List ℕ) (place : ℕ) : Type 0 where
  pub inside : place < length right
  pub wrong : get_or figures place 0 ≡ get_or right place 0 → ⊥
  pub before : (earlier : ℕ) → earlier < place → get_or figures earlier 0 ≡ get_or right earlier 0
