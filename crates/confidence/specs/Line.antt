-- The line that asks for a statement: level, tolerance and exceptions, and what is answered to it. Definitions: nothing is assumed.
use Rattle.std.specs.Prelude.{ℕ, ◌≡◌, List, ◌++◌, length, take, drop, Option, Some, None, Result, Ok, Err}
use Rattle.entry.specs.declared.{Run.Run, Numbers.Numbers, Wrong.Wrong}
use Rattle.entry.specs.Records.{no_numbers, numbers_from}
use Rattle.entry.specs.Steps.{run_of, fields_at}
use Rattle.attributes.specs.Attributes.{level_place, tolerance_place}
use Rattle.confidence.specs.Confidence.{statement_text}

-- a byte for a number: among the levels, and among the tolerances, it stands where the number does, or nowhere as the number does
pub record StandsFor (number byte : ℕ) : Type 0 where
  pub as_level : level_place byte ≡ level_place number
  pub as_tolerance : tolerance_place byte ≡ tolerance_place number

-- the first line of a text, up to its newline, as exactly three numbers between blanks
unfoldable pub asked_of : List ℕ → Result Numbers Wrong
unfolding numbers_from fields_at run_of
asked_of text = numbers_from 3 no_numbers (fields_at (take (run_of Run.Line text) text) 0)

-- their statement, or the line of the first refusal: level, tolerance, exceptions, in this order
abbrev pub answer_text : Numbers → List ℕ
answer_text asked = statement_text asked.first asked.second asked.third

-- how long it is, and the page with it; to a line that is none nothing is written
abbrev pub answer_of : Result Numbers Wrong → Option ℕ
answer_of (Ok asked) = Some (length (answer_text asked))
answer_of (Err wrong) = None

abbrev pub page_with : List ℕ → Result Numbers Wrong → List ℕ
page_with page (Ok asked) = answer_text asked ++ drop (length (answer_text asked)) page
page_with page (Err wrong) = page

-- what is promised of a text
pub record LinePromise (text page : List ℕ) (r : Option ℕ) (page' : List ℕ) : Type 0 where
  pub answer : r ≡ answer_of (asked_of text)
  pub page_left : page' ≡ page_with page (asked_of text)
