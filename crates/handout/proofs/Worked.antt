-- Sheets by computation: three programmes of which the second has no value and a tie decides the leftover draw, without errors and with them; and refusals. Assumes nothing.
use mathlib.Core.Path.{◌≡◌, refl}
use mathlib.Core.List.{List, [], ◌∷◌}
use Prim.Native.Nat.{ℕ}
use lib.IntN.{ℤ, pos, negsuc}
use Rattle.terms.specs.Numbers.{div_up, pad_to}
use Rattle.signed.specs.Errors.{overstated, understated, size_of, is_under}
use Rattle.signed.specs.Parts.{parts, part_of}
use Rattle.pen.specs.Letters.{letters}
use Rattle.pen.specs.Text.{decimal, decimal_in, sized_text, signed_text}
use Rattle.ledger.specs.Ledger.{ledger_with, running_total, running_from}
use Rattle.split.specs.Rounds.{rounds}
use Rattle.shares.specs.Shares.{shares_of}
use Rattle.start.specs.Start.{tried, first_from, start_of}
use Rattle.draw.specs.Points.{covers, points}
use Rattle.project.specs.Lines.{amount, lines_from, lines_of, total}
use Rattle.project.specs.Project.{checked_line, checked_from, checked_lines, projection_at}
use Rattle.strata.specs.Strata.{parts_of, books_of, row_of, rows_of, plan_from, checked_of, plan_of}
use Rattle.strata.specs.Starts.{starts_from, started_of}
use Rattle.starts.specs.Starts.{chosen_from, starts_of}
use Rattle.stratified.specs.Projection.{projected_from, project_strata_of, over_all, under_all}
use Rattle.sheet.specs.Lines.{items_text, ledger_text}
use Rattle.handout.specs.Lines.{strata_text, drawn_text, sums_text, any_error, answers_text}
use Rattle.handout.specs.Handout.{handout_of, handout_text}

-- 60, 0 and 60 cents: of three draws each of the two has one and a half, and the lower takes the leftover
abbrev counts : List ℕ
counts = 2 ∷ 1 ∷ 2 ∷ []

abbrev ledger : List ℕ
ledger = 30 ∷ 30 ∷ 0 ∷ 40 ∷ 20 ∷ []

abbrev none : List ℤ
none = pos 0 ∷ pos 0 ∷ pos 0 ∷ pos 0 ∷ pos 0 ∷ []

-- the sheet that goes out to the auditors
pub sent_out : handout_text 3 counts (31 ∷ 7 ∷ 25 ∷ []) ledger none
    ≡ letters "plan 3 3 120\nstratum 0 2 60 2 30 2 60 0 0 7 2\nstratum 1 1 0 0 0 0 0 0 0 0 0\nstratum 2 2 60 1 60 1 60 0 0 25 1\ndrawn 0 30 0 0\ndrawn 1 30 0 0\ndrawn 3 40 0 0\n"
unfolding handout_text handout_of answers_text strata_text drawn_text sums_text any_error plan_of checked_of plan_from rows_of row_of books_of parts_of shares_of rounds ledger_with running_total running_from starts_of chosen_from start_of tried first_from project_strata_of started_of starts_from projected_from over_all under_all projection_at checked_lines checked_from checked_line lines_of lines_from total covers points amount div_up pad_to parts part_of overstated understated size_of is_under ledger_text items_text decimal decimal_in sized_text signed_text
sent_out = refl

-- an overstatement of 10 in the first programme, and an understatement of 4 in the last
pub come_back : handout_text 3 counts (31 ∷ 7 ∷ 25 ∷ []) ledger (pos 10 ∷ pos 0 ∷ pos 0 ∷ negsuc 3 ∷ pos 0 ∷ [])
    ≡ letters "plan 3 3 120\nstratum 0 2 60 2 30 2 60 0 0 7 2\nstratum 1 1 0 0 0 0 0 0 0 0 0\nstratum 2 2 60 1 60 1 60 0 0 25 1\ndrawn 0 30 10 10\ndrawn 1 30 0 0\ndrawn 3 40 -4 -6\nsums 0 0 10 0 0\nsums 1 0 0 0 0\nsums 2 0 0 0 6\nall 10 6 4\n"
unfolding handout_text handout_of answers_text strata_text drawn_text sums_text any_error plan_of checked_of plan_from rows_of row_of books_of parts_of shares_of rounds ledger_with running_total running_from starts_of chosen_from start_of tried first_from project_strata_of started_of starts_from projected_from over_all under_all projection_at checked_lines checked_from checked_line lines_of lines_from total covers points amount div_up pad_to parts part_of overstated understated size_of is_under ledger_text items_text decimal decimal_in sized_text signed_text
come_back = refl

-- 12 with the words lent, wherever they run out; 14 and 15 with the line of the whole ledger
pub not_started : (handout_text 3 counts (31 ∷ 7 ∷ []) ledger none ≡ letters "refused 12 2\n")
    × (handout_text 3 counts (31 ∷ 7 ∷ 25 ∷ []) ledger (pos 0 ∷ pos 0 ∷ pos 0 ∷ pos 41 ∷ pos 0 ∷ []) ≡ letters "refused 14 3\n")
    × (handout_text 3 counts (31 ∷ 7 ∷ 25 ∷ []) ledger (pos 0 ∷ pos 0 ∷ pos 0 ∷ pos 0 ∷ pos 1 ∷ []) ≡ letters "refused 15 4\n")
unfolding handout_text handout_of answers_text strata_text drawn_text sums_text any_error plan_of checked_of plan_from rows_of row_of books_of parts_of shares_of rounds ledger_with running_total running_from starts_of chosen_from start_of tried first_from project_strata_of started_of starts_from projected_from over_all under_all projection_at checked_lines checked_from checked_line lines_of lines_from total covers points amount div_up pad_to parts part_of overstated understated size_of is_under ledger_text items_text decimal decimal_in sized_text signed_text
not_started = (refl, refl, refl)

-- 22, 30, 13, 3, 5, 8 and 23, each before the words are read
pub not_planned : (handout_text 3 [] [] ledger none ≡ letters "refused 22 0\n") × (handout_text 3 (2 ∷ 2 ∷ []) [] ledger none ≡ letters "refused 30 0\n")
    × (handout_text 3 counts [] ledger [] ≡ letters "refused 13 0\n") × (handout_text 3 (1 ∷ 1 ∷ []) [] (1 ∷ 10000000000001 ∷ []) (pos 0 ∷ pos 0 ∷ []) ≡ letters "refused 3 1\n")
    × (handout_text 3 (1 ∷ 1 ∷ []) [] (0 ∷ 0 ∷ []) (pos 0 ∷ pos 0 ∷ []) ≡ letters "refused 5 0\n") × (handout_text 0 counts [] ledger none ≡ letters "refused 8 0\n")
    × (handout_text 1 counts [] ledger none ≡ letters "refused 23 0\n")
unfolding handout_text handout_of answers_text strata_text drawn_text sums_text any_error plan_of checked_of plan_from rows_of row_of books_of parts_of shares_of rounds ledger_with running_total running_from starts_of chosen_from start_of tried first_from project_strata_of started_of starts_from projected_from over_all under_all projection_at checked_lines checked_from checked_line lines_of lines_from total covers points amount div_up pad_to parts part_of overstated understated size_of is_under ledger_text items_text decimal decimal_in sized_text signed_text
not_planned = (refl, refl, refl, refl, refl, refl, refl)
