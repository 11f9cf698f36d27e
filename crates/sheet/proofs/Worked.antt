-- Document 01's worked example, byte for byte, full lines and each verdict, understated lines, and refusals in the desk program's order, by computation.
-- Assumes nothing.
use Prim.Native.Nat.{ℕ}
use mathlib.Core.Path.{◌≡◌, refl}
use mathlib.Core.Bool.{true, false}
use mathlib.Core.List.{List, [], ◌∷◌, ◌++◌}
use Rattle.terms.specs.Numbers.{div_up}
use Rattle.signed.specs.Errors.{overstated, understated, size_of, is_under, signed_of, most_size}
use Rattle.signed.specs.Parts.{part_of, parts}
use Rattle.factors.specs.Levels.{level_of}
use Rattle.factors.specs.Factors as factors
use Rattle.factors.specs.Table.{table}
use Rattle.ledger.specs.Ledger as ledger
use Rattle.size.specs.Size as size
use Rattle.split.specs.Rounds.{rounds}
use Rattle.split.specs.Split.{figures_from, split_of}
use Rattle.split.specs.Start.{figures_for}
use Rattle.start.specs.Start.{tried, first_from, start_of}
use Rattle.draw.specs.Points.{points, covers}
use Rattle.project.specs.Lines.{amount, lines_from, lines_of, total, amounts_of}
use Rattle.project.specs.Project.{checked_line, checked_from, checked_lines}
use Rattle.sorting.specs.Sorting.{insert_down, sort_onto, sort_down}
use Rattle.precision.specs.Precision.{round_up, hundredths, precision_of}
use Rattle.judge.specs.Judge.{verdict_of, concluded, judged_with, judged_lines, judged_at, judged_figures, judged_ledger, judge_of}
use Rattle.workfile.specs.Numbers.{little_endian}
use Rattle.workfile.specs.Content.{plan_bytes, bytes_of_all}
use Rattle.workfile.specs.Decode.{record_of, fits, grow, run, decode}
use Rattle.workfile.specs.Promises.{plan_with}
use Rattle.workfile.specs.declared.FileRecord.{FileRecord}
use Rattle.workfile.specs.declared.FileRecord.TheVariants.{Word, Value, ErrorOf, End}
use Rattle.pen.specs.Letters.{letters}
use Rattle.pen.specs.Text.{decimal_in, decimal, sized_text, signed_text}
use Rattle.steps.specs.Steps.{judged_from, started_from, split_from, sized_from, totalled_from, steps_of}
use Rattle.sheet.specs.Lines.{items_text, ledger_text, answers_text}
use Rattle.sheet.specs.Sheet.{steps_text, sheet_text, file_of, desk_text}

-- the file of a plan and records
abbrev file : ℕ → ℕ → ℕ → List FileRecord → List ℕ
file level te ae records = plan_bytes (plan_with level te ae) ++ bytes_of_all records

-- an error of each kind: E overstated, U understated
abbrev E : ℕ → ℕ → FileRecord
E line size = ErrorOf false line size

abbrev U : ℕ → ℕ → FileRecord
U line size = ErrorOf true line size

-- the ledger of the worked example, with its end
abbrev claims : List FileRecord → List FileRecord
claims errors = Value 30 ∷ Value 30 ∷ Value 40 ∷ Value 20 ∷ (errors ++ (End 4 120 ∷ []))

pub worked : sheet_text (file 90 100 0 (Word 63 ∷ Word 25 ∷ claims (E 0 7 ∷ E 2 10 ∷ E 3 5 ∷ [])))
    ≡ letters "plan 90 120 100 0 3\nsplit 40 3 120 0 0\nstart 25 2\ndrawn 0 30 7 10\ndrawn 2 40 10 10\ndrawn 3 20 5 10\nproject 0 30 3 0 0 30\njudge 107 137 inconclusive\n"
unfolding sheet_text decode run record_of fits grow little_endian steps_text steps_of totalled_from sized_from split_from started_from judged_from level_of ledger.ledger_of ledger.running_total ledger.running_from size.size_of size.size_at factors.rf factors.step_of table div_up split_of figures_from rounds start_of tried first_from judge_of judged_ledger judged_figures judged_at judged_lines judged_with concluded verdict_of figures_for checked_lines checked_from checked_line lines_of lines_from covers points amount total amounts_of precision_of hundredths round_up sort_down sort_onto insert_down answers_text ledger_text items_text decimal decimal_in signed_text sized_text parts part_of overstated understated size_of is_under signed_of most_size
worked = refl

-- a full line and no interval: below at an error of 3, above at one of 5
pub verdicts : (sheet_text (file 50 4 0 (Value 10 ∷ E 0 3 ∷ End 1 10 ∷ []))
    ≡ letters "plan 50 10 4 0 2\nsplit 0 1 0 1 10\nstart 0 0\nfull 0 10 3 3\nproject 3 0 0 0 0 3\njudge 0 3 below\n")
    × (sheet_text (file 50 4 0 (Value 10 ∷ E 0 5 ∷ End 1 10 ∷ []))
    ≡ letters "plan 50 10 4 0 2\nsplit 0 1 0 1 10\nstart 0 0\nfull 0 10 5 5\nproject 5 0 0 0 0 5\njudge 0 5 above\n")
unfolding sheet_text decode run record_of fits grow little_endian steps_text steps_of totalled_from sized_from split_from started_from judged_from level_of ledger.ledger_of ledger.running_total ledger.running_from size.size_of size.size_at factors.rf factors.step_of table div_up split_of figures_from rounds start_of tried first_from judge_of judged_ledger judged_figures judged_at judged_lines judged_with concluded verdict_of figures_for checked_lines checked_from checked_line lines_of lines_from covers points amount total amounts_of precision_of hundredths round_up sort_down sort_onto insert_down answers_text ledger_text items_text decimal decimal_in signed_text sized_text parts part_of overstated understated size_of is_under signed_of most_size
verdicts = (refl, refl)

-- two lines understated, by 1 and by 10: each amount rounded up in size, neither in the sums of the others nor in m, and the net below 0
pub understated_lines : sheet_text (file 90 100 0 (Word 63 ∷ Word 25 ∷ claims (U 0 1 ∷ U 2 10 ∷ E 3 5 ∷ [])))
    ≡ letters "plan 90 120 100 0 3\nsplit 40 3 120 0 0\nstart 25 2\ndrawn 0 30 -1 -2\ndrawn 2 40 -10 -10\ndrawn 3 20 5 10\nproject 0 10 1 0 12 -2\njudge 99 109 inconclusive\n"
unfolding sheet_text decode run record_of fits grow little_endian steps_text steps_of totalled_from sized_from split_from started_from judged_from level_of ledger.ledger_of ledger.running_total ledger.running_from size.size_of size.size_at factors.rf factors.step_of table div_up split_of figures_from rounds start_of tried first_from judge_of judged_ledger judged_figures judged_at judged_lines judged_with concluded verdict_of figures_for checked_lines checked_from checked_line lines_of lines_from covers points amount total amounts_of precision_of hundredths round_up sort_down sort_onto insert_down answers_text ledger_text items_text decimal decimal_in signed_text sized_text parts part_of overstated understated size_of is_under signed_of most_size
understated_lines = refl

-- a full line understated by 5, where 5 overstated is above: no verdict sees it
pub understated_full : sheet_text (file 50 4 0 (Value 10 ∷ U 0 5 ∷ End 1 10 ∷ []))
    ≡ letters "plan 50 10 4 0 2\nsplit 0 1 0 1 10\nstart 0 0\nfull 0 10 -5 -5\nproject 0 0 0 5 0 -5\njudge 0 0 below\n"
unfolding sheet_text decode run record_of fits grow little_endian steps_text steps_of totalled_from sized_from split_from started_from judged_from level_of ledger.ledger_of ledger.running_total ledger.running_from size.size_of size.size_at factors.rf factors.step_of table div_up split_of figures_from rounds start_of tried first_from judge_of judged_ledger judged_figures judged_at judged_lines judged_with concluded verdict_of figures_for checked_lines checked_from checked_line lines_of lines_from covers points amount total amounts_of precision_of hundredths round_up sort_down sort_onto insert_down answers_text ledger_text items_text decimal decimal_in signed_text sized_text parts part_of overstated understated size_of is_under signed_of most_size
understated_full = refl

-- 17 comes first: no byte at all, and a file that ends after its plan, whose level is none of the nine
pub unread : (sheet_text [] ≡ letters "refused 17 0\n") × (sheet_text (file 91 0 0 []) ≡ letters "refused 17 18\n")
unfolding sheet_text decode run record_of fits grow little_endian steps_text steps_of totalled_from sized_from split_from started_from judged_from level_of ledger.ledger_of ledger.running_total ledger.running_from size.size_of size.size_at factors.rf factors.step_of table div_up split_of figures_from rounds start_of tried first_from judge_of judged_ledger judged_figures judged_at judged_lines judged_with concluded verdict_of figures_for checked_lines checked_from checked_line lines_of lines_from covers points amount total amounts_of precision_of hundredths round_up sort_down sort_onto insert_down answers_text ledger_text items_text decimal decimal_in signed_text sized_text parts part_of overstated understated size_of is_under signed_of most_size
unread = (refl, refl)

-- 1 before 5, and 5 before 6
pub no_level : (sheet_text (file 91 0 0 (Value 0 ∷ End 1 0 ∷ [])) ≡ letters "refused 1 0\n") × (sheet_text (file 90 0 0 (Value 0 ∷ End 1 0 ∷ [])) ≡ letters "refused 5 0\n")
unfolding sheet_text decode run record_of fits grow little_endian steps_text steps_of totalled_from sized_from split_from started_from judged_from level_of ledger.ledger_of ledger.running_total ledger.running_from size.size_of size.size_at factors.rf factors.step_of table div_up split_of figures_from rounds start_of tried first_from judge_of judged_ledger judged_figures judged_at judged_lines judged_with concluded verdict_of figures_for checked_lines checked_from checked_line lines_of lines_from covers points amount total amounts_of precision_of hundredths round_up sort_down sort_onto insert_down answers_text ledger_text items_text decimal decimal_in signed_text sized_text parts part_of overstated understated size_of is_under signed_of most_size
no_level = (refl, refl)

-- 3 before 6, 6 for TE and for AE, and 7, each before 12
pub no_draws : (sheet_text (file 90 0 0 (Value 30 ∷ Value 10000000000001 ∷ End 2 10000000000031 ∷ [])) ≡ letters "refused 3 1\n")
    × (sheet_text (file 90 121 0 (claims [])) ≡ letters "refused 6 0\n") × (sheet_text (file 90 100 121 (claims [])) ≡ letters "refused 6 0\n")
    × (sheet_text (file 90 60 40 (claims [])) ≡ letters "refused 7 0\n")
unfolding sheet_text decode run record_of fits grow little_endian steps_text steps_of totalled_from sized_from split_from started_from judged_from level_of ledger.ledger_of ledger.running_total ledger.running_from size.size_of size.size_at factors.rf factors.step_of table div_up split_of figures_from rounds start_of tried first_from judge_of judged_ledger judged_figures judged_at judged_lines judged_with concluded verdict_of figures_for checked_lines checked_from checked_line lines_of lines_from covers points amount total amounts_of precision_of hundredths round_up sort_down sort_onto insert_down answers_text ledger_text items_text decimal decimal_in signed_text sized_text parts part_of overstated understated size_of is_under signed_of most_size
no_draws = (refl, refl, refl, refl)

-- 12 before 14, with the words that were lent
pub no_start : sheet_text (file 90 100 0 (Word 63 ∷ Word 40 ∷ claims (E 0 31 ∷ []))) ≡ letters "refused 12 2\n"
unfolding sheet_text decode run record_of fits grow little_endian steps_text steps_of totalled_from sized_from split_from started_from judged_from level_of ledger.ledger_of ledger.running_total ledger.running_from size.size_of size.size_at factors.rf factors.step_of table div_up split_of figures_from rounds start_of tried first_from judge_of judged_ledger judged_figures judged_at judged_lines judged_with concluded verdict_of figures_for checked_lines checked_from checked_line lines_of lines_from covers points amount total amounts_of precision_of hundredths round_up sort_down sort_onto insert_down answers_text ledger_text items_text decimal decimal_in signed_text sized_text parts part_of overstated understated size_of is_under signed_of most_size
no_start = refl

-- an interval of 10^12: error × interval passes 64 bits
pub wide_interval : sheet_text (file 50 1000000000000 0 (Word 7 ∷ Value 1000000000000 ∷ E 0 999999999999 ∷ End 1 1000000000000 ∷ []))
    ≡ letters "plan 50 1000000000000 1000000000000 0 1\nsplit 1000000000000 1 1000000000000 0 0\nstart 7 1\ndrawn 0 1000000000000 999999999999 999999999999\nproject 0 999999999999 1 0 0 999999999999\njudge 680000000001 1680000000000 inconclusive\n"
unfolding sheet_text decode run record_of fits grow little_endian steps_text steps_of totalled_from sized_from split_from started_from judged_from level_of ledger.ledger_of ledger.running_total ledger.running_from size.size_of size.size_at factors.rf factors.step_of table div_up split_of figures_from rounds start_of tried first_from judge_of judged_ledger judged_figures judged_at judged_lines judged_with concluded verdict_of figures_for checked_lines checked_from checked_line lines_of lines_from covers points amount total amounts_of precision_of hundredths round_up sort_down sort_onto insert_down answers_text ledger_text items_text decimal decimal_in signed_text sized_text parts part_of overstated understated size_of is_under signed_of most_size
wide_interval = refl

-- 14 and 15 line by line, whichever way a line is wrong
pub no_errors : (sheet_text (file 90 100 0 (Word 25 ∷ claims (E 0 7 ∷ E 1 31 ∷ []))) ≡ letters "refused 14 1\n")
    × (sheet_text (file 90 100 0 (Word 25 ∷ claims (E 0 7 ∷ U 1 9223372036854775808 ∷ []))) ≡ letters "refused 14 1\n")
    × (sheet_text (file 90 100 0 (Word 25 ∷ claims (E 1 7 ∷ E 2 41 ∷ []))) ≡ letters "refused 15 1\n")
    × (sheet_text (file 90 100 0 (Word 25 ∷ claims (U 1 7 ∷ E 2 41 ∷ []))) ≡ letters "refused 15 1\n")
unfolding sheet_text decode run record_of fits grow little_endian steps_text steps_of totalled_from sized_from split_from started_from judged_from level_of ledger.ledger_of ledger.running_total ledger.running_from size.size_of size.size_at factors.rf factors.step_of table div_up split_of figures_from rounds start_of tried first_from judge_of judged_ledger judged_figures judged_at judged_lines judged_with concluded verdict_of figures_for checked_lines checked_from checked_line lines_of lines_from covers points amount total amounts_of precision_of hundredths round_up sort_down sort_onto insert_down answers_text ledger_text items_text decimal decimal_in signed_text sized_text parts part_of overstated understated size_of is_under signed_of most_size
no_errors = (refl, refl, refl, refl)

-- after the byte of the blackboard method: the byte alone, and a second one, which is the file's
pub board_bytes : (desk_text (0x42 ∷ []) ≡ letters "refused 17 0\n") × (desk_text (0x42 ∷ 0x42 ∷ file 90 100 0 []) ≡ letters "refused 17 0\n")
unfolding desk_text file_of sheet_text decode run record_of fits grow little_endian decimal decimal_in
board_bytes = (refl, refl)

-- and a record that is cut short: the place counts from the file's first byte
pub board_place : desk_text (0x42 ∷ (file 90 100 0 (Word 25 ∷ []) ++ (0x4C ∷ []))) ≡ letters "refused 17 27\n"
unfolding desk_text file_of sheet_text decode run record_of fits grow little_endian decimal decimal_in
board_place = refl
