-- What the parts of the code promise: a line at a place of the text, its record stored, and the pass that stores. Definitions: nothing is assumed.
use Rattle.std.specs.Prelude.{ℕ, ◌≡◌, List, ℤ, Result, Ok, Err}
use Rattle.terms.specs.Numbers.{pick}
use Rattle.workfile.specs.Content.{Content}
use Rattle.workfile.specs.Promises.{over}
use Rattle.workfile.specs.declared.{Contents.Contents, Tally.Tally, FileRecord.FileRecord}
use Rattle.store.specs.Storing.{HasPlace}
use Rattle.entry.specs.Steps.{line_after, record_at_line}
use Rattle.entry.specs.declared.{Notation.Notation, Record.Record, Wrong.Wrong}
use Rattle.notation.specs.Contents.{Reading, says, faulty, reads, taken_of, text_of}
use Rattle.notation.specs.Parse.{reading_counts}
use Rattle.notation.specs.declared.{State.State, Turn.Turn, Fault.Fault}

-- the line that begins at a place
abbrev pub turn_with : Record → ℕ → Result State Wrong → Result Turn Wrong
turn_with found to (Ok s) = Ok (record { found = found; state = s; next = to })
turn_with found to (Err wrong) = Err wrong

unfoldable pub turn_of : Notation → List ℕ → ℕ → State → Result Turn Wrong
turn_of by text at s = turn_with (record_at_line by text at) (line_after text at) (taken_of s (record_at_line by text at))

-- the file's record of a line; none for P, N and S and for a line that holds nothing
abbrev pub filed : Record → FileRecord
filed Record.Nothing = FileRecord.Nothing
filed (Record.Plan level te ae) = FileRecord.Nothing
filed Record.Stratum = FileRecord.Nothing
filed (Record.Filed r) = r
filed (Record.Unreadable wrong) = FileRecord.Nothing

pub record HasPlaceOf (found : Record) (t : Tally) (w v : List ℕ) (e : List ℤ) : Type 0 where
  pub place : (r : FileRecord) → found ≡ Record.Filed r → HasPlace t r w v e

-- at the end of the text
abbrev pub contents_of : State → Contents
contents_of s = record { level = s.plan.level; te = s.plan.te; ae = s.plan.ae; words = s.tally.words; lines = s.tally.lines }

unfoldable pub end_of : State → ℕ → Reading Contents
end_of s line = pick s.planned (says (contents_of s)) (faulty Wrong.NoPlan line)

-- the pass that stores: what a text that is not faulty says lies over the buffers
pub record OnePass (by : Notation) (text w v : List ℕ) (e : List ℤ) (r : Result Contents Fault) (w' v' : List ℕ) (e' : List ℤ) : Type 0 where
  pub answer : reads r ≡ reading_counts (text_of by text)
  pub kept : (c : Content) → text_of by text ≡ says c → (w' ≡ over c.words w) × (v' ≡ over c.values v) × (e' ≡ over c.errors e)
