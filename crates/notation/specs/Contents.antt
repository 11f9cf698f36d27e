-- What a text says, line by line: each is judged by the working file's rules, and is taken in or is wrong. Definitions: nothing is assumed.
use Rattle.std.specs.Prelude.{ℕ, suc, Bool, true, false, List, [], ◌∷◌, ltb, Result, Ok, Err}
use Rattle.terms.specs.Numbers.{pick}
use Rattle.workfile.specs.Content.{Content, most_file_lines, closing}
use Rattle.workfile.specs.Decode.{tally_of, grow, start}
use Rattle.workfile.specs.Promises.{plan_with, content_with}
use Rattle.workfile.specs.declared.{Plan.Plan, Tally.Tally, FileRecord.FileRecord}
use Rattle.records.specs.Judging.{judged}
use Rattle.records.specs.declared.Judged.{Judged}
use Rattle.entry.specs.Text.{text_lines}
use Rattle.entry.specs.Records.{record_in}
use Rattle.entry.specs.declared.{Notation.Notation, Wrong.Wrong, Record.Record}
use Rattle.notation.specs.declared.{State.State, Fault.Fault}

-- what a text says, or what is wrong in it and at which line
pub data Reading (A : Type 0) : Type 0 where
  says : A → Reading A
  faulty : Wrong → ℕ → Reading A

-- what the code answers to a text
abbrev pub reads : {A : Type 0} → Result A Fault → Reading A
reads (Ok a) = says a
reads (Err fault) = faulty fault.wrong fault.line

-- which rule bars a record: the first of its kind that it breaks, and the last where it breaks no other; no line writes the last two
unfoldable pub broken_rule : Tally → FileRecord → Wrong
broken_rule t (FileRecord.Word w) = pick (ltb 0 t.lines) Wrong.OutOfOrder Wrong.TooManyWords
broken_rule t (FileRecord.Value v) = pick (ltb 0 t.next_line) Wrong.OutOfOrder (pick (ltb t.lines most_file_lines) Wrong.TotalTooLarge Wrong.TooManyLines)
broken_rule t (FileRecord.ErrorOf u l n) =
    pick (ltb l t.lines) (pick (ltb l t.next_line) Wrong.LineNotRising (pick (ltb 0 n) Wrong.ErrorTooLarge Wrong.ErrorZero)) Wrong.UnknownLine
broken_rule t (FileRecord.End n s) = Wrong.UnknownKind
broken_rule t FileRecord.Nothing = Wrong.UnknownKind

-- P once, with a level of one byte; N says 0 for the level
unfoldable pub taken_plan : State → ℕ → ℕ → ℕ → Result State Wrong
taken_plan s level te ae =
    pick s.planned (Err Wrong.SecondPlan)
    (pick (ltb 255 level) (Err Wrong.LevelTooLarge) (Ok (record { planned = true; plan = plan_with level te ae; tally = s.tally })))

-- S after N: a record of its own, which no rule of the file knows
unfoldable pub taken_stratum : State → Result State Wrong
taken_stratum s = pick s.planned (Ok s) (Err Wrong.NoPlan)

-- any other record after P, as the file's rules judge it
abbrev pub ruled_by : State → FileRecord → Judged → Result State Wrong
ruled_by s r (Judged.Next t n) = Ok (record { planned = true; plan = s.plan; tally = t })
ruled_by s r Judged.Last = Err (broken_rule s.tally r)
ruled_by s r Judged.Bad = Err (broken_rule s.tally r)

unfoldable pub taken_record : State → FileRecord → Result State Wrong
unfolding judged broken_rule
taken_record s r = pick s.planned (ruled_by s r (judged s.tally r)) (Err Wrong.NoPlan)

unfoldable pub taken_of : State → Record → Result State Wrong
unfolding taken_plan taken_stratum taken_record
taken_of s Record.Nothing = Ok s
taken_of s (Record.Plan level te ae) = taken_plan s level te ae
taken_of s Record.Stratum = taken_stratum s
taken_of s (Record.Filed r) = taken_record s r
taken_of s (Record.Unreadable wrong) = Err wrong

-- the content with one line more
abbrev pub with_plan : Content → Plan → Content
with_plan c p = content_with p c.words c.values c.errors

unfoldable pub grown : Content → Record → Content
unfolding grow
grown c Record.Nothing = c
grown c (Record.Plan level te ae) = with_plan c (plan_with level te ae)
grown c Record.Stratum = c
grown c (Record.Filed r) = grow c r
grown c (Record.Unreadable wrong) = c

-- before the first line, and what the rules look at
abbrev pub empty_content : Content
empty_content = start (plan_with 0 0 0)

abbrev pub state_of : Bool → Content → State
state_of planned c = record { planned = planned; plan = c.plan; tally = tally_of c }

abbrev pub go_on : Result State Wrong → ℕ → (Bool → Reading Content) → Reading Content
go_on (Ok s) line rest = rest s.planned
go_on (Err wrong) line rest = faulty wrong line

-- Line by line in a notation, from a line's number, whether P was among those before it, and their content. The text ends with the line after its last, and
-- its end is the Z that its counts imply: lines without E and U have error 0.
unfoldable pub read_lines : Notation → ℕ → Bool → Content → List (List ℕ) → Reading Content
unfolding grow taken_of grown record_in
read_lines by line planned c [] = pick planned (says (grow c (closing c))) (faulty Wrong.NoPlan line)
read_lines by line planned c (bytes ∷ later) =
    go_on (taken_of (state_of planned c) (record_in by bytes)) line (λ planned. read_lines by (suc line) planned (grown c (record_in by bytes)) later)

unfoldable pub text_of : Notation → List ℕ → Reading Content
unfolding read_lines text_lines
text_of by text = read_lines by 1 false empty_content (text_lines text)
