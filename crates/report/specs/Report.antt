-- What a salvage did as text: one line, each figure after its word, those of an old Z last where there is one. Definitions: nothing is assumed.
use Rattle.std.specs.Prelude.{ℕ, ◌≤◌, List, [], ◌∷◌, ◌++◌, map, length, Option, Some, None}
use Rattle.terms.specs.Outcome.{Outcome}
use Rattle.pen.specs.Letters.{letters}
use Rattle.pen.specs.Text.{decimal, line}
use Rattle.pen.specs.Page.{Wrote}
use Rattle.sheet.specs.Sheet.{text_by}
use Rattle.salvaging.specs.declared.{OldEnd.OldEnd, Salvaged.Salvaged}

-- a word, and its figure after a space
unfoldable pub named : List ℕ → ℕ → List ℕ
named word figure = word ++ (32 ∷ decimal figure)

-- the figures of an old Z, and the end of the line
unfoldable pub old_text : Option OldEnd → List ℕ
old_text (Some z) = line (letters " old" ∷ map decimal (z.count ∷ z.sum ∷ []))
old_text None = 10 ∷ []

-- the records kept and the bytes dropped; the new count and sum
unfoldable pub kept_text : ℕ → ℕ → List ℕ
kept_text kept dropped = named (letters "kept") kept ++ named (letters " dropped") dropped

unfoldable pub new_text : ℕ → ℕ → List ℕ
new_text lines sum = named (letters " lines") lines ++ named (letters " sum") sum

unfoldable pub salvaged_text : Salvaged → List ℕ
salvaged_text s = kept_text s.kept s.dropped ++ (new_text s.lines s.sum ++ old_text s.old)

-- the line of what was done, or that of a refusal
unfoldable pub report_text : Outcome Salvaged → List ℕ
report_text o = text_by salvaged_text o

-- a text is written, and is no longer than this
pub record Bounded (old : List ℕ) (at : ℕ) (text new : List ℕ) (next most : ℕ) : Type 0 where
  pub wrote : Wrote old at text new next
  pub short : length text ≤ most

-- no line is longer: four words of 22 bytes, the space and the digits of six figures, and the end with its word
abbrev pub longest_report : ℕ
longest_report = 153
