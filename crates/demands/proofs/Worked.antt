-- The practice sheet's projections over all starts, by computation. Assumes nothing.
use mathlib.Core.Path.{◌≡◌, refl}
use mathlib.Core.List.{List, [], ◌∷◌}
use Prim.Native.Nat.{ℕ, ◌*◌}
use mathlib.Core.Bool.{true, false}
use lib.IntN.{ℤ, pos, negsuc}
use Rattle.terms.specs.Numbers.{div_up}
use Rattle.signed.specs.declared.Part.TheVariants.{Overstated, Understated}
use Rattle.signed.specs.Errors.{overstated, understated, size_of}
use Rattle.signed.specs.Parts.{part_of, parts}
use Rattle.ledger.specs.Ledger as ledger
use Rattle.split.specs.Rounds.{rounds}
use Rattle.split.specs.Split.{split_of, figures_from}
use Rattle.draw.specs.Points.{points, covers}
use Rattle.draw.specs.Row.{marks_from, draw_marks}
use Rattle.split.specs.Start.{figures_for}
use Rattle.project.specs.Lines.{amount, lines_from, lines_of, total}
use Rattle.project.specs.Project.{checked_line, checked_from, checked_lines, projection_at, project_of}
use Rattle.demands.specs.Starts.{sum_below, entered, sampled_error}
use Rattle.demands.specs.Demand3.{projected_for, sampled_in}

abbrev claims : List ℕ
claims = 30 ∷ 30 ∷ 40 ∷ 20 ∷ []

abbrev errors : List ℤ
errors = pos 7 ∷ pos 0 ∷ pos 10 ∷ pos 5 ∷ []

-- with lines 0 and 2 understated
abbrev both : List ℤ
both = negsuc 6 ∷ pos 0 ∷ negsuc 9 ∷ pos 5 ∷ []

-- over the 40 starts the projections add to 900, against 40 times the true error
pub all_starts : sum_below 40 (λ start. sampled_in false (projected_for claims 3 errors start)) ≡ 900
unfolding sum_below entered project_of figures_for split_of figures_from ledger.ledger_of ledger.running_total ledger.running_from rounds projection_at checked_lines checked_from checked_line lines_of lines_from draw_marks marks_from total amount covers points div_up parts part_of overstated understated size_of
all_starts = refl

pub against : 40 * sampled_error 40 claims (parts Overstated errors) ≡ 880
unfolding sampled_error parts part_of overstated
against = refl

-- each kind by itself: 200 of one and 700 of the other, against 200 and 680
pub each_kind : (sum_below 40 (λ start. sampled_in false (projected_for claims 3 both start)) ≡ 200) × (sum_below 40 (λ start. sampled_in true (projected_for claims 3 both start)) ≡ 700)
unfolding sum_below entered project_of figures_for split_of figures_from ledger.ledger_of ledger.running_total ledger.running_from rounds projection_at checked_lines checked_from checked_line lines_of lines_from draw_marks marks_from total amount covers points div_up parts part_of overstated understated size_of
each_kind = (refl, refl)

pub against_each : (40 * sampled_error 40 claims (parts Overstated both) ≡ 200) × (40 * sampled_error 40 claims (parts Understated both) ≡ 680)
unfolding sampled_error parts part_of overstated understated
against_each = (refl, refl)
