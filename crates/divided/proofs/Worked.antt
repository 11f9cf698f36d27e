-- Texts of ledgers in strata, and one for each fault of order, by computation. Assumes nothing.
use Prim.Native.String.{String}
use mathlib.Core.Path.{◌≡◌, refl}
use mathlib.Core.List.{[], ◌∷◌, map}
use Rattle.pen.specs.Letters.{letters}
use Rattle.entry.specs.Text.{text_lines, blank, opens, fields_of}
use Rattle.entry.specs.Records.{number_from, number_of, numbers_from, is_own, is_kind, count_of, made_of, with_numbers, record_with, record_by, record_in}
use Rattle.entry.specs.declared.Wrong.TheVariants.{OutOfOrder, NoStratum}
use Rattle.notation.specs.Contents.{says, faulty}
use Rattle.divided.specs.Divided.{parts_of, lines_before, counts_of, order_of, ordered_from, divided_of}

worked : map (λ (s : String). divided_of (letters s))
    ("# two programmes\nN 3\n\nW 63\nS\nL 30\nL 30\n S \r\nL 40\nE 0 7\nU 2 10" ∷ "N 3\nS\nS\nL 5\nS" ∷ "N 3\nW 1" ∷ ""
    ∷ "N 3\nL 30\nS" ∷ "N 3\nS\nL 30\nE 0 7\nS" ∷ "N 3\nS\nU 0 7\nS" ∷ "N 3\nS\nW 63" ∷ [])
    ≡ says (2 ∷ 1 ∷ []) ∷ says (0 ∷ 1 ∷ 0 ∷ []) ∷ says [] ∷ says [] ∷ faulty NoStratum 2 ∷ faulty OutOfOrder 5 ∷ faulty OutOfOrder 4 ∷ faulty OutOfOrder 3 ∷ []
unfolding divided_of ordered_from order_of counts_of lines_before parts_of text_lines record_in record_by record_with fields_of opens blank is_own is_kind count_of made_of with_numbers numbers_from number_of number_from
worked = refl
