-- What is known of the strata of every text: they hold all its lines of L, and what is stored is all of them where there is room. Assumes nothing.
use mathlib.Core.Path.{◌≡◌, refl, ap}
use mathlib.Core.Bool.{Bool, true, false}
use mathlib.Core.List.{List, [], ◌∷◌}
use Prim.Native.Nat.{ℕ, suc, ◌+◌, ◌≤◌}
use native.Mathlib.Omega.{arith}
use lib.ListN.{length, take}
use Rattle.terms.specs.Numbers.{sum}
use Rattle.workfile.specs.Content.{Content}
use Rattle.workfile.specs.declared.FileRecord.TheVariants.{Word, Value, ErrorOf, End, Nothing}
use Rattle.entry.specs.Text.{text_lines}
use Rattle.entry.specs.Records.{record_in}
use Rattle.entry.specs.declared.Record.{Record}
use Rattle.entry.specs.declared.Record.TheVariants as line
use Rattle.entry.specs.declared.Notation.TheVariants.{Programmes}
use Rattle.records.proofs.Judging.{clash}
use Rattle.notation.specs.Contents.{says, text_of}
use Rattle.notation.proofs.Laws.{line_in, lines_told, lines_counted}
use Rattle.divided.specs.Divided.{part_of, parts_in, parts_of, lines_before, counts_of, order_of, opened_by, late_by, go_on, ordered_from, divided_of, laid}
use Rattle.divided.specs.declared.Part.{Part}
use Rattle.divided.specs.declared.Part.TheVariants as part
use Rattle.std.specs.Prelude.{Result, Ok, Err}
use Rattle.entry.specs.declared.Wrong.{Wrong}

-- the lines of L among parts
abbrev line_part : Part → ℕ
line_part part.Stratum = 0
line_part part.Line = 1
line_part part.Word = 0
line_part part.Error = 0
line_part part.Other = 0

unfoldable lines_in : List Part → ℕ
lines_in [] = 0
lines_in (p ∷ later) = line_part p + lines_in later

-- each stands before the first S or in one stratum
in_strata : (parts : List Part) → lines_before parts + sum (counts_of parts) ≡ lines_in parts
unfolding lines_before counts_of lines_in
in_strata [] = refl
in_strata (part.Stratum ∷ later) = omega (arith, in_strata later)
in_strata (part.Line ∷ later) = omega (arith, in_strata later)
in_strata (part.Word ∷ later) = omega (arith, in_strata later)
in_strata (part.Error ∷ later) = omega (arith, in_strata later)
in_strata (part.Other ∷ later) = omega (arith, in_strata later)

-- as many as the text has
as_told : (r : Record) → line_in r ≡ line_part (part_of r)
as_told line.Nothing = refl
as_told (line.Plan level te ae) = refl
as_told line.Stratum = refl
as_told (line.Filed (Word w)) = refl
as_told (line.Filed (Value v)) = refl
as_told (line.Filed (ErrorOf u l n)) = refl
as_told (line.Filed (End n s)) = refl
as_told (line.Filed Nothing) = refl
as_told (line.Unreadable wrong) = refl

all_told : (lines : List (List ℕ)) → lines_told Programmes lines ≡ lines_in (parts_in lines)
unfolding lines_in
all_told [] = refl
all_told (bytes ∷ later) = omega (arith, as_told (record_in Programmes bytes), all_told later)

-- a text in order says its counts
says_counts : (parts : List Part) (line : ℕ) (opened late : Bool) (counts found : List ℕ) → ordered_from line opened late counts parts ≡ says found → counts ≡ found
unfolding ordered_from
says_counts [] line opened late counts found e = cc
says_counts (p ∷ later) line opened late counts found e =
    go (order_of opened late p) e (says_counts later (suc line) (opened_by p opened) (late_by p late) counts found)
  where
    go : (o : Result Unit Wrong) → go_on o line (ordered_from (suc line) (opened_by p opened) (late_by p late) counts later) ≡ says found
        → (ordered_from (suc line) (opened_by p opened) (late_by p late) counts later ≡ says found → counts ≡ found) → counts ≡ found
    go (Ok fits) f again = again f
    go (Err wrong) f again = clash (cc)

-- and has no line of L before the first S
none_early : (parts : List Part) (line : ℕ) (late : Bool) (counts found : List ℕ) → ordered_from line false late counts parts ≡ says found → lines_before parts ≡ 0
unfolding ordered_from order_of lines_before
none_early [] line late counts found e = refl
none_early (part.Stratum ∷ later) line late counts found e = refl
none_early (part.Line ∷ later) line late counts found e = clash (cc)
none_early (part.Word ∷ later) line late counts found e = none_early later (suc line) late counts found e
none_early (part.Error ∷ later) line late counts found e = none_early later (suc line) true counts found e
none_early (part.Other ∷ later) line late counts found e = none_early later (suc line) late counts found e

-- the strata of a text without fault hold all its lines
pub counts_add : (text : List ℕ) (c : Content) (counts : List ℕ) → text_of Programmes text ≡ says c → divided_of text ≡ says counts → sum counts ≡ length c.values
unfolding divided_of parts_of
counts_add text c counts e d =
    let same : counts_of (parts_of text) ≡ counts = says_counts (parts_of text) 1 false false (counts_of (parts_of text)) counts d in
    omega (arith, ap sum same, none_early (parts_of text) 1 false (counts_of (parts_of text)) counts d, in_strata (parts_of text), all_told (text_lines text), lines_counted Programmes text c e)

-- what is stored is all of them where there is room
pub stored_front : (room counts : List ℕ) → length counts ≤ length room → take (length counts) (laid room counts) ≡ counts
unfolding laid
stored_front room [] h = refl
stored_front [] (n ∷ counts) h = absurd (omega arith)
stored_front (z ∷ room) (n ∷ counts) h = ap (λ (l : List ℕ). n ∷ l) (stored_front room counts (omega arith))

pub stored_many : (room counts : List ℕ) → length (laid room counts) ≡ length room
unfolding laid
stored_many [] counts = refl
stored_many (z ∷ room) [] = refl
stored_many (z ∷ room) (n ∷ counts) = ap suc (stored_many room counts)
