-- The record that the fields of a line write: a kind, and as many numbers as the kind has. Definitions: nothing is assumed.
use Rattle.std.specs.Prelude.{ℕ, zero, suc, ◌+◌, ◌*◌, ◌-◌, ◌^◌, Bool, true, false, List, [], ◌∷◌, eqb, ltb, length, get_or, Result, Ok, Err}
use Rattle.terms.specs.Numbers.{pick}
use Rattle.workfile.specs.declared.FileRecord.{FileRecord}
use Rattle.entry.specs.Text.{fields_of}
use Rattle.entry.specs.declared.{Notation.Notation, Wrong.Wrong, Numbers.Numbers, Record.Record}

-- a number in decimal digits, after digits that write `value`: the first byte that is no digit, or that passes 64 bits, is wrong
unfoldable pub number_from : ℕ → List ℕ → Result ℕ Wrong
number_from value [] = Ok value
number_from value (b ∷ field) =
    let grown = 10 * value + (b - 48) in
    let rest = number_from grown field in
    pick (ltb b 48) (Err Wrong.NotNumber) (pick (ltb 57 b) (Err Wrong.NotNumber) (pick (ltb grown (2 ^ 64)) rest (Err Wrong.NumberTooLarge)))

unfoldable pub number_of : List ℕ → Result ℕ Wrong
unfolding number_from
number_of field = number_from 0 field

-- a number that was read, or was not
abbrev pub with_number : Result ℕ Wrong → (ℕ → Result Numbers Wrong) → Result Numbers Wrong
with_number (Ok value) more = more value
with_number (Err wrong) more = Err wrong

-- the next field is a number, from which the numbers go on
abbrev pub next : List (List ℕ) → (ℕ → List (List ℕ) → Result Numbers Wrong) → Result Numbers Wrong
next [] more = Err Wrong.NumberMissing
next (field ∷ fields) more = with_number (number_of field) (λ value. more value fields)

-- no field is left
abbrev pub ended : List (List ℕ) → Numbers → Result Numbers Wrong
ended [] numbers = Ok numbers
ended (field ∷ fields) numbers = Err Wrong.FieldTooMany

-- the last three numbers, with one more
abbrev pub no_numbers : Numbers
no_numbers = record { first = 0; second = 0; third = 0 }

abbrev pub one_more : Numbers → ℕ → Numbers
one_more numbers value = record { first = numbers.second; second = numbers.third; third = value }

-- exactly as many numbers as the count says, after those that were read
unfoldable pub numbers_from : ℕ → Numbers → List (List ℕ) → Result Numbers Wrong
unfolding number_of number_from
numbers_from zero numbers fields = ended fields numbers
numbers_from (suc left) numbers fields = next fields (λ value after. numbers_from left (one_more numbers value) after)

-- the kinds that one notation alone has: P at the desk, N and S for a ledger in strata
unfoldable pub is_own : Notation → ℕ → Bool
is_own Notation.Desk kind = eqb kind 0x50
is_own Notation.Programmes kind = pick (eqb kind 0x4E) true (eqb kind 0x53)

-- the kinds of a notation: W, L, E and U, and its own
unfoldable pub is_kind : Notation → ℕ → Bool
unfolding is_own
is_kind by kind = pick (eqb kind 0x57) true (pick (eqb kind 0x4C) true (pick (eqb kind 0x45) true (pick (eqb kind 0x55) true (is_own by kind))))

-- how many numbers a kind has: P 3, N, W and L 1, E and U 2; S has none, nor has a byte that is no kind
unfoldable pub count_of : ℕ → ℕ
count_of kind =
    pick (eqb kind 0x50) 3 (pick (eqb kind 0x4E) 1 (pick (eqb kind 0x57) 1 (pick (eqb kind 0x4C) 1 (pick (eqb kind 0x45) 2 (pick (eqb kind 0x55) 2 0)))))

-- P level TE AE; N draws, which stand where AE does; S; W word; L value; E line size; U line size
unfoldable pub made_of : ℕ → Numbers → Record
made_of kind numbers =
    pick (eqb kind 0x50) (Record.Plan numbers.first numbers.second numbers.third)
    (pick (eqb kind 0x4E) (Record.Plan 0 0 numbers.third)
    (pick (eqb kind 0x53) Record.Stratum
    (pick (eqb kind 0x57) (Record.Filed (FileRecord.Word numbers.third))
    (pick (eqb kind 0x4C) (Record.Filed (FileRecord.Value numbers.third))
    (pick (eqb kind 0x45) (Record.Filed (FileRecord.ErrorOf false numbers.second numbers.third))
    (pick (eqb kind 0x55) (Record.Filed (FileRecord.ErrorOf true numbers.second numbers.third))
    (Record.Unreadable Wrong.UnknownKind)))))))

unfoldable pub with_numbers : ℕ → Result Numbers Wrong → Record
unfolding made_of
with_numbers kind (Ok numbers) = made_of kind numbers
with_numbers kind (Err wrong) = Record.Unreadable wrong

-- the record of a kind, from the fields after it
unfoldable pub record_with : Notation → ℕ → List (List ℕ) → Record
unfolding is_kind count_of with_numbers numbers_from
record_with by kind fields = pick (is_kind by kind) (with_numbers kind (numbers_from (count_of kind) no_numbers fields)) (Record.Unreadable Wrong.UnknownKind)

-- A line without fields holds nothing, nor does a comment, whose first field begins with #. The kind is a field of one byte.
unfoldable pub record_by : Notation → List (List ℕ) → Record
unfolding record_with
record_by by [] = Record.Nothing
record_by by (kind ∷ fields) =
    pick (eqb (get_or kind 0 0) 0x23) Record.Nothing (pick (eqb (length kind) 1) (record_with by (get_or kind 0 0) fields) (Record.Unreadable Wrong.UnknownKind))

unfoldable pub record_in : Notation → List ℕ → Record
unfolding record_by fields_of
record_in by line = record_by by (fields_of line)
