-- The parts of the reader: the first pass, and the second. Definitions: nothing is assumed.
use Rattle.std.specs.Prelude.{ℕ, ◌≤◌, ◌≡◌, false, List, ℤ, length, get_or}
use Rattle.terms.specs.Outcome.{Outcome, accepted, after, left}
use Rattle.terms.specs.Numbers.{pick}
use Rattle.workfile.specs.Content.{Content}
use Rattle.workfile.specs.Decode.{record_at, tally_of, fits, has_plan, decode, Stop, stop_in}
use Rattle.workfile.specs.Promises.{over, counts_of}
use Rattle.workfile.specs.declared.{Plan.Plan, Tally.Tally, Contents.Contents}
use Rattle.records.specs.Judging.{judged}
use Rattle.records.specs.declared.Judged.{Judged}
use Rattle.store.specs.Storing.{Put}
use Rattle.reader.specs.declared.Stopped.{Stopped}

-- what the first pass answers: where the records that the rules allow end, their counts, and whether Z ends them; without P nothing is counted
abbrev pub stopped_at : List ℕ → Stop → Stopped
stopped_at f s = record { at = s.at; tally = tally_of s.read; ends = fits (tally_of s.read) (record_at f s.at) }

unfoldable pub stopped_in : List ℕ → Stopped
stopped_in f = pick (has_plan f) (stopped_at f (stop_in f)) (record { at = 0; tally = record { words = 0; lines = 0; sum = 0; next_line = 0 }; ends = false })

-- P stands first
pub record Opened (f : List ℕ) : Type 0 where
  pub long : 18 ≤ length f
  pub kind : get_or f 0 0 ≡ 0x50

-- what that says of the file
abbrev pub check_of : Outcome Content → Outcome Unit
check_of o = after (λ c. accepted tt) o

-- the record at a place of a file, judged and stored
pub record Stepped (f : List ℕ) (at : ℕ) (t : Tally) (j : Judged) (w v : List ℕ) (e : List ℤ) (w' v' : List ℕ) (e' : List ℤ) : Type 0 where
  pub judgement : j ≡ judged t (record_at f at)
  pub stored : Put t (record_at f at) w v e w' v' e'

abbrev pub contents_with : Plan → Tally → Contents
contents_with p t = record { level = p.level; te = p.te; ae = p.ae; words = t.words; lines = t.lines }

abbrev pub IsLegal : List ℕ → Type 0
IsLegal f = (c : Content) × (decode f ≡ accepted c)

-- what the second pass leaves of a legal file
pub record Stored (f w v : List ℕ) (e : List ℤ) (k : Contents) (w' v' : List ℕ) (e' : List ℤ) : Type 0 where
  pub answer : accepted k ≡ counts_of (decode f)
  pub words : w' ≡ left (λ c. over c.words w) w (decode f)
  pub values : v' ≡ left (λ c. over c.values v) v (decode f)
  pub errors : e' ≡ left (λ c. over c.errors e) e (decode f)
