-- The content of a file, record by record, or the offset of the first record that breaks a rule (17). Definitions: nothing is assumed.
use Rattle.std.specs.Prelude.{ℕ, zero, suc, ◌+◌, ◌-◌, Bool, true, false, ◌&&◌, not, List, [], ◌∷◌, ◌++◌, leb, ltb, eqb, ℤ, pos, length, get_or, drop, replicate}
use Rattle.terms.specs.Outcome.{Outcome, accepted, refused}
use Rattle.terms.specs.Numbers.{pick, sum}
use Rattle.signed.specs.Errors.{signed_of, most_size}
use Rattle.workfile.specs.Numbers.{little_endian}
use Rattle.workfile.specs.Content.{Content, most_words, most_file_lines, sum_bound}
use Rattle.workfile.specs.declared.{Plan.Plan, Tally.Tally, FileRecord.FileRecord}

-- a record's length, and whether it is Z
abbrev pub size : FileRecord → ℕ
size (FileRecord.Word w) = 9
size (FileRecord.Value v) = 9
size (FileRecord.ErrorOf u l n) = 13
size (FileRecord.End n s) = 13
size FileRecord.Nothing = 0

abbrev pub is_end : FileRecord → Bool
is_end (FileRecord.Word w) = false
is_end (FileRecord.Value v) = false
is_end (FileRecord.ErrorOf u l n) = false
is_end (FileRecord.End n s) = true
is_end FileRecord.Nothing = false

-- the whole record that stands first in a list of bytes: nothing where it is cut short or of no kind
abbrev pub whole : ℕ → List ℕ → FileRecord → FileRecord
whole n bs r = pick (leb n (length bs)) r FileRecord.Nothing

unfoldable pub record_of : List ℕ → FileRecord
record_of bs =
    pick (eqb (get_or bs 0 0) 0x57) (whole 9 bs (FileRecord.Word (little_endian 8 (drop 1 bs))))
    (pick (eqb (get_or bs 0 0) 0x4C) (whole 9 bs (FileRecord.Value (little_endian 8 (drop 1 bs))))
    (pick (eqb (get_or bs 0 0) 0x45) (whole 13 bs (FileRecord.ErrorOf false (little_endian 4 (drop 1 bs)) (little_endian 8 (drop 5 bs))))
    (pick (eqb (get_or bs 0 0) 0x55) (whole 13 bs (FileRecord.ErrorOf true (little_endian 4 (drop 1 bs)) (little_endian 8 (drop 5 bs))))
    (pick (eqb (get_or bs 0 0) 0x5A) (whole 13 bs (FileRecord.End (little_endian 4 (drop 1 bs)) (little_endian 8 (drop 5 bs)))) FileRecord.Nothing))))

-- the record at a place of a file
unfoldable pub record_at : List ℕ → ℕ → FileRecord
record_at f at = record_of (drop at f)

-- the counts of what was read so far
abbrev pub tally_of : Content → Tally
tally_of c = record { words = length c.words; lines = length c.values; sum = sum c.values; next_line = length c.errors }

-- whether the rules allow a record after those counted: W before any L, L before any E or U, whose lines rise together
unfoldable pub fits : Tally → FileRecord → Bool
fits t (FileRecord.Word w) = eqb t.lines 0 && ltb t.words most_words
fits t (FileRecord.Value v) = eqb t.next_line 0 && (ltb t.lines most_file_lines && ltb (t.sum + v) sum_bound)
fits t (FileRecord.ErrorOf u l n) = leb t.next_line l && (ltb l t.lines && (ltb 0 n && leb n (most_size u)))
fits t (FileRecord.End n s) = eqb n t.lines && eqb s t.sum
fits t FileRecord.Nothing = false

-- lines without E and U have error 0
abbrev pub pad_to : ℕ → List ℤ → List ℤ
pad_to n es = es ++ replicate (n - length es) (pos 0)

abbrev pub with_errors : Content → List ℤ → Content
with_errors c es = record { plan = c.plan; words = c.words; values = c.values; errors = es }

-- the content with one record more: E and U their size with its sign; Z gives the lines that are left their error
unfoldable pub grow : Content → FileRecord → Content
grow c (FileRecord.Word w) = record { plan = c.plan; words = c.words ++ (w ∷ []); values = c.values; errors = c.errors }
grow c (FileRecord.Value v) = record { plan = c.plan; words = c.words; values = c.values ++ (v ∷ []); errors = c.errors }
grow c (FileRecord.ErrorOf u l n) = with_errors c (pad_to l c.errors ++ (signed_of n u ∷ []))
grow c (FileRecord.End n s) = with_errors c (pad_to n c.errors)
grow c FileRecord.Nothing = c

-- after Z, whose 13 bytes stand at offset at, nothing follows
abbrev pub closed : Content → ℕ → List ℕ → Outcome Content
closed c at bs = pick (eqb (length bs) 13) (accepted c) (refused 17 (at + 13))

-- Record by record: c was read, and bs is left and stands at offset at. The first argument only bounds the number of records.
-- Where the file ends too early, at is its length.
unfoldable pub run : ℕ → Content → ℕ → List ℕ → Outcome Content
run zero c at bs = refused 17 at
run (suc k) c at bs =
    let r = record_of bs in
    let more = run k (grow c r) (at + size r) (drop (size r) bs) in
    pick (fits (tally_of c) r) (pick (is_end r) (closed (grow c r) at bs) more) (refused 17 at)

-- P comes first
abbrev pub has_plan : List ℕ → Bool
has_plan f = eqb (get_or f 0 0) 0x50 && leb 18 (length f)

abbrev pub plan_of : List ℕ → Plan
plan_of f = record { level = get_or f 1 0; te = little_endian 8 (drop 2 f); ae = little_endian 8 (drop 10 f) }

abbrev pub start : Plan → Content
start p = record { plan = p; words = []; values = []; errors = [] }

unfoldable pub decode : List ℕ → Outcome Content
decode f =
    let records = run (length f) (start (plan_of f)) 18 (drop 18 f) in
    pick (has_plan f) records (refused 17 0)

-- Where the whole records that the rules allow end, from the start on and Z left out: what they hold, and the offset after them.
pub record Stop : Type 0 where
  pub read : Content
  pub at : ℕ

-- whether one record more is taken: the rules allow it after those counted, and it is not Z
abbrev pub reads_on : Tally → FileRecord → Bool
reads_on t r = fits t r && not (is_end r)

-- As `run` goes: c was read, and bs is left and stands at offset at.
unfoldable pub stop : ℕ → Content → ℕ → List ℕ → Stop
stop zero c at bs = record { read = c; at = at }
stop (suc k) c at bs =
    let r = record_of bs in
    let more = stop k (grow c r) (at + size r) (drop (size r) bs) in
    pick (reads_on (tally_of c) r) more (record { read = c; at = at })

unfoldable pub stop_in : List ℕ → Stop
stop_in f = stop (length f) (start (plan_of f)) 18 (drop 18 f)

-- what the record there decides: Z that the rules allow closes the file, and any other breaks a rule
unfoldable pub decided : List ℕ → Stop → Outcome Content
decided f s =
    pick (fits (tally_of s.read) (record_at f s.at)) (closed (grow s.read (record_at f s.at)) s.at (drop s.at f)) (refused 17 s.at)
