-- A first line that holds the letter B and nothing else asks for the blackboard method. Definitions: nothing is assumed.
use Rattle.std.specs.Prelude.{ℕ, ◌+◌, Bool, true, List, ltb, eqb, length, get_or, drop}
use Rattle.terms.specs.Numbers.{pick}
use Rattle.entry.specs.declared.Run.{Run}
use Rattle.entry.specs.Steps.{run_of}

-- the place after blanks that begin at a place
abbrev pub after_blanks : List ℕ → ℕ → ℕ
after_blanks text from = from + run_of Run.Blanks (drop from text)

-- there a line ends: with a newline, or with the text
abbrev pub ends_at : List ℕ → ℕ → Bool
ends_at text at = pick (ltb at (length text)) (eqb (get_or text at 0) 10) true

-- the place of the letter, where it stands there and a line ends after it; elsewhere the length of the text
abbrev pub place_by : List ℕ → ℕ → ℕ → ℕ
place_by text at after = pick (eqb (get_or text at 0) 0x42) (pick (ends_at text after) at (length text)) (length text)

-- blanks, B, blanks and the end of the line
unfoldable pub letter_place : List ℕ → ℕ
letter_place text = let at = after_blanks text 0 in place_by text at (after_blanks text (at + 1))
