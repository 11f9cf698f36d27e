-- The practice sheet's desk input in the notation, and a text for each fault, by computation. Assumes nothing.
use Prim.Native.String.{String}
use mathlib.Core.Path.{◌≡◌, refl}
use mathlib.Core.List.{[], ◌∷◌, map}
use lib.IntN.{pos, negsuc}
use Rattle.signed.specs.Errors.{signed_of, most_size}
use Rattle.pen.specs.Letters.{letters}
use Rattle.workfile.specs.Decode.{fits, grow}
use Rattle.workfile.specs.Promises.{plan_with, content_with}
use Rattle.records.specs.Judging.{judged}
use Rattle.entry.specs.Text.{text_lines, blank, opens, fields_of}
use Rattle.entry.specs.Records.{number_from, number_of, numbers_from, is_own, is_kind, count_of, made_of, with_numbers, record_with, record_by, record_in}
use Rattle.entry.specs.declared.Notation.TheVariants.{Desk, Programmes}
use Rattle.entry.specs.declared.Wrong.TheVariants.{UnknownKind, NumberMissing, NotNumber, NumberTooLarge, FieldTooMany, NoPlan, SecondPlan, LevelTooLarge, OutOfOrder, TotalTooLarge, UnknownLine, LineNotRising, ErrorZero, ErrorTooLarge}
use Rattle.notation.specs.Contents.{says, faulty, broken_rule, taken_plan, taken_stratum, taken_record, taken_of, grown, read_lines, text_of}

worked : map (λ (s : String). text_of Desk (letters s))
    ("# the practice ledger\nP 90 100 0\n\nW 63\nW 25\nL 30\nL 30\nL 40\nL 20\n  E 0\t7 \r\nU 2 10\nE 3 5"
    ∷ "Z 4 120" ∷ "P 90 100" ∷ "P 90 100 -1" ∷ "P 90 100 18446744073709551616" ∷ "P 90 100 0 0" ∷ "\n# no P\n" ∷ "P 90 100 0\nP 90 100 0" ∷ "P 256 100 0"
    ∷ "P 90 100 0\nL 30\nW 63" ∷ "P 90 100 0\nL 30\nE 1 7" ∷ "P 90 100 0\nL 30\nL 30\nE 1 7\nE 1 7" ∷ "P 90 100 0\nL 30\nE 0 0"
    ∷ "P 90 100 0\nL 18446744073709551615\nL 1" ∷ "W 63" ∷ "P 90 100 0\nL 30\nE 0 7\nL 30"
    ∷ "P 90 100 0\nL 30\nE 0 9223372036854775808" ∷ "P 90 100 0\nL 30\nU 0 9223372036854775809" ∷ "P 90 100 0\nL 30\nE 0 7\nU 0 7" ∷ "P 90 100 0\nL 30\nU 0 9223372036854775808" ∷ [])
    ≡ says (content_with (plan_with 90 100 0) (63 ∷ 25 ∷ []) (30 ∷ 30 ∷ 40 ∷ 20 ∷ []) (pos 7 ∷ pos 0 ∷ negsuc 9 ∷ pos 5 ∷ []))
    ∷ faulty UnknownKind 1 ∷ faulty NumberMissing 1 ∷ faulty NotNumber 1 ∷ faulty NumberTooLarge 1 ∷ faulty FieldTooMany 1 ∷ faulty NoPlan 3 ∷ faulty SecondPlan 2 ∷ faulty LevelTooLarge 1
    ∷ faulty OutOfOrder 3 ∷ faulty UnknownLine 3 ∷ faulty LineNotRising 5 ∷ faulty ErrorZero 3
    ∷ faulty TotalTooLarge 3 ∷ faulty NoPlan 1 ∷ faulty OutOfOrder 4
    ∷ faulty ErrorTooLarge 3 ∷ faulty ErrorTooLarge 3 ∷ faulty LineNotRising 4 ∷ says (content_with (plan_with 90 100 0) [] (30 ∷ []) (negsuc 9223372036854775807 ∷ [])) ∷ []
unfolding text_of read_lines text_lines record_in record_by record_with fields_of opens blank is_own is_kind count_of made_of with_numbers numbers_from number_of number_from taken_of taken_plan taken_stratum taken_record broken_rule grown judged fits grow signed_of most_size
worked = refl

-- a ledger in strata: N in the place of P, S before the lines of each stratum
in_strata : map (λ (s : String). text_of Programmes (letters s))
    ("# two programmes\nN 3\n\nW 63\nS\nL 30\nL 30\n S \r\nL 40\nE 0 7\nU 2 10"
    ∷ "P 90 100 0" ∷ "N 3\nS 5" ∷ "N" ∷ "N 3 4" ∷ "S\nN 3" ∷ "W 63" ∷ "N 3\nN 3" ∷ "N 3\nS\nL 30\nW 63" ∷ "N 3\nS\nL 30\nE 0 7\nL 30" ∷ "S" ∷ "# no N\n" ∷ [])
    ≡ says (content_with (plan_with 0 0 3) (63 ∷ []) (30 ∷ 30 ∷ 40 ∷ []) (pos 7 ∷ pos 0 ∷ negsuc 9 ∷ []))
    ∷ faulty UnknownKind 1 ∷ faulty FieldTooMany 2 ∷ faulty NumberMissing 1 ∷ faulty FieldTooMany 1 ∷ faulty NoPlan 1 ∷ faulty NoPlan 1 ∷ faulty SecondPlan 2 ∷ faulty OutOfOrder 4 ∷ faulty OutOfOrder 5
    ∷ faulty NoPlan 1 ∷ faulty NoPlan 2 ∷ []
unfolding text_of read_lines text_lines record_in record_by record_with fields_of opens blank is_own is_kind count_of made_of with_numbers numbers_from number_of number_from taken_of taken_plan taken_stratum taken_record broken_rule grown judged fits grow signed_of most_size
in_strata = refl

-- N and S are no kinds at the desk
desk_kinds : map (λ (s : String). text_of Desk (letters s)) ("N 3" ∷ "P 90 100 0\nS" ∷ []) ≡ faulty UnknownKind 1 ∷ faulty UnknownKind 2 ∷ []
unfolding text_of read_lines text_lines record_in record_by record_with fields_of opens blank is_own is_kind count_of made_of with_numbers numbers_from number_of number_from taken_of taken_plan taken_stratum taken_record broken_rule grown judged fits grow signed_of most_size
desk_kinds = refl
