-- The strata of a text: what each line is to them, where it may stand, and how many lines each stratum has. Definitions: nothing is assumed.
use Rattle.std.specs.Prelude.{ℕ, suc, Bool, true, false, not, List, [], ◌∷◌, map, length, replicate, Result, Ok, Err}
use Rattle.terms.specs.Numbers.{pick}
use Rattle.workfile.specs.declared.FileRecord.{FileRecord}
use Rattle.entry.specs.Text.{text_lines}
use Rattle.entry.specs.Records.{record_in}
use Rattle.entry.specs.declared.{Notation.Notation, Record.Record, Wrong.Wrong}
use Rattle.notation.specs.Contents.{Reading, says, faulty}
use Rattle.notation.specs.declared.Fault.{Fault}
use Rattle.divided.specs.declared.{Part.Part, Divided.Divided}

-- what a line is to the strata: S, W, L, E and U, or none of these
abbrev pub filed_part : FileRecord → Part
filed_part (FileRecord.Word w) = Part.Word
filed_part (FileRecord.Value v) = Part.Line
filed_part (FileRecord.ErrorOf u l n) = Part.Error
filed_part (FileRecord.End n s) = Part.Other
filed_part FileRecord.Nothing = Part.Other

abbrev pub part_of : Record → Part
part_of Record.Nothing = Part.Other
part_of (Record.Plan level te ae) = Part.Other
part_of Record.Stratum = Part.Stratum
part_of (Record.Filed r) = filed_part r
part_of (Record.Unreadable wrong) = Part.Other

abbrev pub parts_in : List (List ℕ) → List Part
parts_in lines = map (λ (bytes : List ℕ). part_of (record_in Notation.Programmes bytes)) lines

unfoldable pub parts_of : List ℕ → List Part
unfolding text_lines record_in
parts_of text = parts_in (text_lines text)

-- the lines of L before the next S
unfoldable pub lines_before : List Part → ℕ
lines_before [] = 0
lines_before (Part.Stratum ∷ later) = 0
lines_before (Part.Line ∷ later) = suc (lines_before later)
lines_before (Part.Word ∷ later) = lines_before later
lines_before (Part.Error ∷ later) = lines_before later
lines_before (Part.Other ∷ later) = lines_before later

-- of each S, the lines of L up to the next
unfoldable pub counts_of : List Part → List ℕ
unfolding lines_before
counts_of [] = []
counts_of (Part.Stratum ∷ later) = lines_before later ∷ counts_of later
counts_of (Part.Line ∷ later) = counts_of later
counts_of (Part.Word ∷ later) = counts_of later
counts_of (Part.Error ∷ later) = counts_of later
counts_of (Part.Other ∷ later) = counts_of later

abbrev pub barred_if : Bool → Wrong → Result Unit Wrong
barred_if test wrong = pick test (Err wrong) (Ok tt)

-- An S after E or U is out of order, and so is a W after S; an L needs an S before it.
unfoldable pub order_of : Bool → Bool → Part → Result Unit Wrong
order_of opened late Part.Stratum = barred_if late Wrong.OutOfOrder
order_of opened late Part.Word = barred_if opened Wrong.OutOfOrder
order_of opened late Part.Line = barred_if (not opened) Wrong.NoStratum
order_of opened late Part.Error = Ok tt
order_of opened late Part.Other = Ok tt

-- whether an S, and whether an E or U, is among the lines so far
abbrev pub opened_by : Part → Bool → Bool
opened_by Part.Stratum opened = true
opened_by Part.Line opened = opened
opened_by Part.Word opened = opened
opened_by Part.Error opened = opened
opened_by Part.Other opened = opened

abbrev pub late_by : Part → Bool → Bool
late_by Part.Stratum late = late
late_by Part.Line late = late
late_by Part.Word late = late
late_by Part.Error late = true
late_by Part.Other late = late

abbrev pub go_on : {A : Type 0} → Result Unit Wrong → ℕ → Reading A → Reading A
go_on (Ok fits) line rest = rest
go_on (Err wrong) line rest = faulty wrong line

-- line by line, from a line's number
unfoldable pub ordered_from : ℕ → Bool → Bool → List ℕ → List Part → Reading (List ℕ)
unfolding order_of
ordered_from line opened late counts [] = says counts
ordered_from line opened late counts (part ∷ later) =
    let rest = ordered_from (suc line) (opened_by part opened) (late_by part late) counts later in
    go_on (order_of opened late part) line rest

-- how many lines each stratum of a text has, or the first fault of order
unfoldable pub divided_of : List ℕ → Reading (List ℕ)
unfolding parts_of counts_of ordered_from
divided_of text = ordered_from 1 false false (counts_of (parts_of text)) (parts_of text)

-- counts over a room, as far as it goes
unfoldable pub laid : List ℕ → List ℕ → List ℕ
laid [] counts = []
laid (z ∷ room) [] = z ∷ room
laid (z ∷ room) (n ∷ counts) = n ∷ laid room counts

-- what is answered: all strata are counted, and the first 33 counts stored
abbrev pub no_counts : List ℕ
no_counts = replicate 33 0

unfoldable pub stored_in : Reading (List ℕ) → Result Divided Fault
unfolding laid
stored_in (says counts) = Ok (record { strata = length counts; counts = laid no_counts counts })
stored_in (faulty wrong line) = Err (record { line = line; wrong = wrong })
