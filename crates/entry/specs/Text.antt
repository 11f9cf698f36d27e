-- A text is lines of bytes, and a line is fields between blanks. Definitions: nothing is assumed.
use Rattle.std.specs.Prelude.{ℕ, Bool, true, false, not, List, [], ◌∷◌, eqb}
use Rattle.terms.specs.Numbers.{pick}
use Rattle.entry.specs.declared.Run.{Run}

-- a byte before the first of some lists of bytes
abbrev pub onto : ℕ → List (List ℕ) → List (List ℕ)
onto b [] = (b ∷ []) ∷ []
onto b (l ∷ ls) = (b ∷ l) ∷ ls

-- The lines of a text: each ends with a newline, which is no part of it; the last may lack it.
unfoldable pub text_lines : List ℕ → List (List ℕ)
text_lines [] = []
text_lines (b ∷ text) = pick (eqb b 10) ([] ∷ text_lines text) (onto b (text_lines text))

-- a space, a tab or a carriage return
unfoldable pub blank : ℕ → Bool
blank b = pick (eqb b 32) true (pick (eqb b 9) true (eqb b 13))

-- whether a line begins within a field
unfoldable pub opens : List ℕ → Bool
opens [] = false
opens (b ∷ line) = not (blank b)

-- The fields of a line: what stands between its blanks, none of them empty.
unfoldable pub fields_of : List ℕ → List (List ℕ)
fields_of [] = []
fields_of (b ∷ line) = pick (blank b) (fields_of line) (pick (opens line) (onto b (fields_of line)) ((b ∷ []) ∷ fields_of line))

-- what a run of bytes goes on over: blanks, a field's bytes, a line's bytes
unfoldable pub goes_on : Run → ℕ → Bool
goes_on Run.Blanks b = blank b
goes_on Run.Field b = not (blank b)
goes_on Run.Line b = not (eqb b 10)
