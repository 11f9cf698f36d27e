-- The confidence statement as text: the word, the items, the exceptions, and the upper bound in percent. Definitions: nothing is assumed.
use Rattle.std.specs.Prelude.{ℕ, ◌/◌, ◌%◌, ◌≤◌, List, [], ◌∷◌, ◌++◌, length}
use Rattle.terms.specs.Outcome.{Outcome}
use Rattle.pen.specs.Letters.{letters}
use Rattle.pen.specs.Text.{decimal, line}
use Rattle.pen.specs.Page.{Wrote}
use Rattle.sheet.specs.Sheet.{text_by}
use Rattle.attributes.specs.Attributes.{items_of, bound_of}

-- no statement is longer
abbrev pub longest_statement : ℕ
longest_statement = 76

-- hundredths of a percent: the whole percents, a point, and two decimals
unfoldable pub percent_text : ℕ → List ℕ
percent_text h = decimal (h / 100) ++ (46 ∷ (decimal (h % 100 / 10) ++ decimal (h % 10)))

unfoldable pub statement_line : ℕ → ℕ → ℕ → List ℕ
statement_line items exceptions h = line (letters "statement" ∷ decimal items ∷ decimal exceptions ∷ percent_text h ∷ [])

-- the statement, or the line of a refusal
abbrev pub bound_text : ℕ → ℕ → Outcome ℕ → List ℕ
bound_text items exceptions o = text_by (statement_line items exceptions) o

abbrev pub items_text : ℕ → ℕ → ℕ → Outcome ℕ → List ℕ
items_text level tolerance exceptions o = text_by (λ items. bound_text items exceptions (bound_of level tolerance exceptions)) o

unfoldable pub statement_text : ℕ → ℕ → ℕ → List ℕ
unfolding statement_line percent_text
statement_text level tolerance exceptions = items_text level tolerance exceptions (items_of level tolerance)

-- a text is written, and is no longer than the longest statement
pub record Stated (old : List ℕ) (at : ℕ) (text new : List ℕ) (next : ℕ) : Type 0 where
  pub wrote : Wrote old at text new next
  pub short : length text ≤ longest_statement
