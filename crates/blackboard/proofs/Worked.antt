-- The practice sheet by walking, by computation. Assumes nothing.
use mathlib.Core.Path.{◌≡◌, refl}
use mathlib.Core.List.{List, [], ◌∷◌}
use Prim.Native.Nat.{ℕ}
use lib.IntN.{pos, negsuc}
use Rattle.terms.specs.Numbers.{div_up}
use Rattle.terms.specs.Outcome.{accepted, refused, left}
use Rattle.ledger.specs.Ledger.{ledger_of, running_total, running_from}
use Rattle.signed.specs.Errors.{overstated, understated, size_of}
use Rattle.split.specs.Rounds.{rounds}
use Rattle.split.specs.Split.{split_of, figures_from, full_marks}
use Rattle.blackboard.specs.Board.{row_end, count_on, stop_at, points_from, points_of, marked, board_marks, drawn_lines}
use Rattle.blackboard.specs.Draw.{board_figures, board_marks_at, board_draw_of}
use Rattle.blackboard.specs.Project.{board_amount, line_added, added_from, board_projection_at, board_project_of}

-- 30, 30, 40, 20 with J = 40, and 500, 120, 0, 80, 300 with J = 80
abbrev short : List ℕ
short = 30 ∷ 30 ∷ 40 ∷ 20 ∷ []

abbrev long : List ℕ
long = 500 ∷ 120 ∷ 0 ∷ 80 ∷ 300 ∷ []

-- at start 25 the points are 25, 65 and 105, and they are covered by lines 0, 2 and 3
pub walked_points : (points_of 40 25 short ≡ 25 ∷ 65 ∷ 105 ∷ []) × (stop_at 40 short 25 ≡ 0) × (stop_at 40 short 65 ≡ 2) × (stop_at 40 short 105 ≡ 3)
unfolding points_of points_from row_end count_on
walked_points = (refl, refl, refl, refl)

pub walked_marks : (left (board_marks_at short 0) [] (board_figures short 3 0 4) ≡ 1 ∷ 1 ∷ 1 ∷ 0 ∷ [])
    × (left (board_marks_at short 25) [] (board_figures short 3 25 4) ≡ 1 ∷ 0 ∷ 1 ∷ 1 ∷ []) × (left (board_marks_at short 30) [] (board_figures short 3 30 4) ≡ 0 ∷ 1 ∷ 1 ∷ 1 ∷ [])
unfolding board_figures split_of figures_from ledger_of running_total running_from rounds board_marks full_marks marked points_of points_from row_end count_on
walked_marks = (refl, refl, refl)

pub walked_draws : (board_draw_of short 3 25 4 ≡ accepted 3) × (board_draw_of short 3 40 4 ≡ refused 11 0) × (board_draw_of short 3 25 3 ≡ refused 13 0) × (board_draw_of short 0 0 4 ≡ refused 8 0)
unfolding board_draw_of board_figures split_of figures_from ledger_of running_total running_from rounds board_marks full_marks marked points_of points_from row_end count_on drawn_lines
walked_draws = (refl, refl, refl, refl)

-- full lines are passed over: 500, 120 and 300 are above J = 80
pub walked_past : left (board_marks_at long 79) [] (board_figures long 4 79 5) ≡ 2 ∷ 2 ∷ 0 ∷ 1 ∷ 2 ∷ []
unfolding board_figures split_of figures_from ledger_of running_total running_from rounds board_marks full_marks marked points_of points_from row_end count_on
walked_past = refl

-- the sums of both kinds, the net below 0, and refusals 15 and 14
pub walked_sums : (board_project_of short 3 25 (pos 7 ∷ pos 0 ∷ pos 10 ∷ pos 5 ∷ []) ≡ accepted (record { full = 0; sampled = 30; m = 3; under_full = 0; under_sampled = 0; net = pos 30 }))
    × (board_project_of short 3 25 (pos 7 ∷ pos 0 ∷ negsuc 9 ∷ negsuc 4 ∷ []) ≡ accepted (record { full = 0; sampled = 10; m = 1; under_full = 0; under_sampled = 20; net = negsuc 9 }))
    × (board_project_of long 4 79 (pos 1 ∷ pos 0 ∷ pos 0 ∷ pos 7 ∷ negsuc 1 ∷ []) ≡ accepted (record { full = 1; sampled = 7; m = 1; under_full = 2; under_sampled = 0; net = pos 6 }))
    × (board_project_of short 3 0 (pos 7 ∷ pos 0 ∷ pos 10 ∷ pos 5 ∷ []) ≡ refused 15 3) × (board_project_of short 3 0 (pos 7 ∷ pos 0 ∷ pos 10 ∷ negsuc 20 ∷ []) ≡ refused 14 3)
unfolding board_project_of board_figures split_of figures_from ledger_of running_total running_from rounds board_projection_at added_from line_added board_amount div_up board_marks full_marks marked points_of points_from row_end count_on overstated understated size_of
walked_sums = (refl, refl, refl, refl, refl)
