-- Where a run of bytes ends, which fields stand from a place on, and which number stands next. Definitions: nothing is assumed.
use Rattle.std.specs.Prelude.{ℕ, suc, ◌+◌, ◌≤◌, min, ◌≡◌, List, [], ◌∷◌, length, take, drop, Result, Ok, Err}
use Rattle.terms.specs.Numbers.{pick}
use Rattle.entry.specs.Text.{fields_of, goes_on}
use Rattle.entry.specs.Records.{next, record_in}
use Rattle.entry.specs.declared.{Notation.Notation, Run.Run, Record.Record, TextLine.TextLine, Numbers.Numbers, Wrong.Wrong}

-- how many bytes of a list a run goes over
unfoldable pub run_of : Run → List ℕ → ℕ
run_of run [] = 0
run_of run (b ∷ l) = pick (goes_on run b) (suc (run_of run l)) 0

pub record Reached (run : Run) (text : List ℕ) (from at : ℕ) : Type 0 where
  pub after : from ≤ at
  pub within : at ≤ length text
  pub same : at ≡ from + run_of run (drop from text)

-- the line of a text that begins at a place, and where the next begins
unfoldable pub line_of : List ℕ → ℕ → List ℕ
line_of text at = take (run_of Run.Line (drop at text)) (drop at text)

unfoldable pub line_after : List ℕ → ℕ → ℕ
line_after text at = min (suc (at + run_of Run.Line (drop at text))) (length text)

-- the record of that line, and both
abbrev pub record_at_line : Notation → List ℕ → ℕ → Record
record_at_line by text at = record_in by (line_of text at)

abbrev pub line_at : Notation → List ℕ → ℕ → TextLine
line_at by text at = record { found = record_at_line by text at; next = line_after text at }

-- the fields from a place of a line on
unfoldable pub fields_at : List ℕ → ℕ → List (List ℕ)
fields_at line at = fields_of (drop at line)

-- the next number and the place after it, and what then becomes of the line
abbrev pub next_place : Result (ℕ × ℕ) Wrong → ℕ
next_place (Ok found) = found.1
next_place (Err wrong) = 0

abbrev pub next_says : List ℕ → Result (ℕ × ℕ) Wrong → (ℕ → List (List ℕ) → Result Numbers Wrong) → Result Numbers Wrong
next_says line (Ok found) more = more found.0 (fields_at line found.1)
next_says line (Err wrong) more = Err wrong

pub record NextNumber (line : List ℕ) (at : ℕ) (r : Result (ℕ × ℕ) Wrong) : Type 0 where
  pub within : next_place r ≤ length line
  pub same : (more : ℕ → List (List ℕ) → Result Numbers Wrong) → next (fields_at line at) more ≡ next_says line r more
