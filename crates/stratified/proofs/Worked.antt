-- The draw and the projection of a ledger of three strata worked by hand, by computation. Assumes nothing.
use mathlib.Core.Path.{◌≡◌, refl}
use mathlib.Core.List.{List, [], ◌∷◌}
use Prim.Native.Nat.{ℕ}
use lib.IntN.{ℤ, pos, negsuc}
use lib.ListN.{drop}
use Rattle.terms.specs.Outcome.{Outcome, accepted, refused}
use Rattle.terms.specs.Numbers.{div_up}
use Rattle.ledger.specs.Ledger.{running_total, running_from}
use Rattle.draw.specs.Points.{covers, points}
use Rattle.draw.specs.Row.{marks_from, ones}
use Rattle.signed.specs.Errors.{size_of, overstated, understated}
use Rattle.signed.specs.Parts.{parts, part_of}
use Rattle.project.specs.Lines.{amount, lines_of, lines_from, total}
use Rattle.project.specs.Project.{checked_lines, checked_from, checked_line}
use Rattle.strata.specs.Strata.{parts_of}
use Rattle.strata.proofs.Worked.{grants, counts, rows}
use Rattle.stratified.specs.declared.projection.ProjectionRow.{ProjectionRow}
use Rattle.stratified.specs.Marks.{strata_marks, draw_strata_of}
use Rattle.stratified.specs.Projection.{no_projection, project_strata_of, over_all, under_all}

abbrev starts : List ℕ
starts = 7 ∷ 0 ∷ 3 ∷ []

-- 50 is full; the point 7 is in the third line of the first stratum, 3 and 23 in the two lines of the third
pub marks_by_hand : (strata_marks (parts_of counts grants) rows starts ≡ 2 ∷ 0 ∷ 1 ∷ 1 ∷ 1 ∷ 0 ∷ []) × (draw_strata_of grants counts 4 starts 6 ≡ accepted 3)
unfolding strata_marks parts_of draw_strata_of running_total running_from marks_from covers points div_up ones
marks_by_hand = (refl, refl)

-- the projection of these errors, -4 on the fourth line
abbrev answer_of : List ℤ → Outcome (List ProjectionRow)
answer_of errors = project_strata_of grants counts 4 starts errors

abbrev projected : List ProjectionRow
projected =
    record { draws = 2; interval = 10; full = 10; sampled = 6; under_full = 0; under_sampled = 0 } ∷ no_projection ∷
    record { draws = 2; interval = 20; full = 0; sampled = 5; under_full = 0; under_sampled = 4 } ∷ []

pub projection_by_hand : (answer_of (pos 10 ∷ pos 0 ∷ pos 3 ∷ negsuc 3 ∷ pos 5 ∷ pos 0 ∷ []) ≡ accepted projected) × (over_all projected ≡ 21) × (under_all projected ≡ 4)
unfolding project_strata_of over_all under_all running_total running_from checked_lines checked_from checked_line lines_of lines_from covers points div_up total amount parts part_of size_of overstated understated
projection_by_hand = (refl, refl, refl)

-- the third line raised from 3 to 5, which is its value: the row of its stratum moves and no other; one cent more is refused
pub line_raised : (answer_of (pos 10 ∷ pos 0 ∷ pos 5 ∷ negsuc 3 ∷ pos 5 ∷ pos 0 ∷ [])
    ≡ accepted (record { draws = 2; interval = 10; full = 10; sampled = 10; under_full = 0; under_sampled = 0 } ∷ drop 1 projected))
    × (answer_of (pos 10 ∷ pos 0 ∷ pos 6 ∷ negsuc 3 ∷ pos 5 ∷ pos 0 ∷ []) ≡ refused 14 2)
unfolding project_strata_of running_total running_from checked_lines checked_from checked_line lines_of lines_from covers points div_up total amount parts part_of size_of overstated understated
line_raised = (refl, refl)

-- 14 and 15 name the line of the whole ledger, and the first line that breaks a rule refuses; 14 before 15 on a line
pub lines_refused : (answer_of (pos 0 ∷ pos 0 ∷ pos 0 ∷ negsuc 20 ∷ pos 0 ∷ pos 1 ∷ []) ≡ refused 14 3) × (answer_of (pos 0 ∷ pos 1 ∷ pos 0 ∷ negsuc 20 ∷ pos 0 ∷ pos 0 ∷ []) ≡ refused 15 1)
    × (answer_of (pos 0 ∷ pos 6 ∷ pos 0 ∷ pos 0 ∷ pos 0 ∷ pos 0 ∷ []) ≡ refused 14 1)
unfolding project_strata_of running_total running_from checked_lines checked_from checked_line lines_of lines_from covers points div_up total amount parts part_of size_of overstated understated
lines_refused = (refl, refl, refl)
