-- The practice sheet's projected lines, understated lines, full lines, an amount whose product passes 64 bits, and refusals, by computation. Assumes nothing.
use mathlib.Core.Path.{◌≡◌, refl}
use mathlib.Core.List.{List, [], ◌∷◌}
use Prim.Native.Nat.{ℕ, ◌+◌}
use lib.IntN.{ℤ, pos, negsuc}
use lib.ListN.{length}
use Rattle.terms.specs.Numbers.{div_up}
use Rattle.terms.specs.Outcome.{Outcome, accepted, refused, left}
use Rattle.signed.specs.Errors.{overstated, understated, size_of, is_under, signed_of}
use Rattle.signed.specs.Parts.{part_of, parts, with_signs}
use Rattle.ledger.specs.Ledger.{running_from, running_total, ledger_of}
use Rattle.split.specs.Rounds.{rounds}
use Rattle.split.specs.Split.{split_of, figures_from}
use Rattle.split.specs.Start.{figures_for}
use Rattle.draw.specs.Points.{points, covers}
use Rattle.project.specs.declared.Projection.{Projection}
use Rattle.project.specs.Lines.{amount, lines_from, lines_of, total}
use Rattle.project.specs.Project.{checked_line, checked_from, checked_lines, projection_at}
use Rattle.lines.specs.Each.{each_projects, amounts_with, length_beside, lines_for, project_lines_of}

abbrev claims : List ℕ
claims = 30 ∷ 30 ∷ 40 ∷ 20 ∷ []

abbrev found : List ℤ
found = pos 7 ∷ pos 0 ∷ pos 10 ∷ pos 5 ∷ []

abbrev before : List ℤ
before = pos 1 ∷ pos 2 ∷ negsuc 2 ∷ pos 4 ∷ []

-- a projection without understatements
abbrev overs : ℕ → ℕ → ℕ → Outcome Projection
overs full sampled m = accepted (record { full = full; sampled = sampled; m = m; under_full = 0; under_sampled = 0; net = pos (full + sampled) })

-- the answer, and what is left in the amounts
abbrev answered : List ℕ → ℕ → ℕ → List ℤ → List ℤ → Outcome Projection × List ℤ
answered ledger n start errors amounts =
    let beside = length_beside (length ledger) (length errors) (length amounts) in
    (project_lines_of ledger n start errors beside, left (amounts_with errors) amounts (lines_for ledger n start errors beside))

-- start 25: three amounts of 10, and none for the line that is not drawn
pub at_25 : answered claims 3 25 found before ≡ (overs 0 30 3, pos 10 ∷ pos 0 ∷ pos 10 ∷ pos 10 ∷ [])
unfolding project_lines_of lines_for each_projects figures_for split_of figures_from ledger_of running_total running_from rounds projection_at checked_lines checked_from checked_line lines_of lines_from total amount covers points div_up parts part_of overstated understated size_of is_under signed_of with_signs
at_25 = refl

-- understated by 1 and by 10: 40 / 30 in size rounded up, and 10; they add to the net
pub understated_lines : answered claims 3 25 (negsuc 0 ∷ pos 0 ∷ negsuc 9 ∷ pos 5 ∷ []) before
    ≡ (accepted (record { full = 0; sampled = 10; m = 1; under_full = 0; under_sampled = 12; net = negsuc 1 }), negsuc 1 ∷ pos 0 ∷ negsuc 9 ∷ pos 10 ∷ [])
unfolding project_lines_of lines_for each_projects figures_for split_of figures_from ledger_of running_total running_from rounds projection_at checked_lines checked_from checked_line lines_of lines_from total amount covers points div_up parts part_of overstated understated size_of is_under signed_of with_signs
understated_lines = refl

-- full lines project their errors, and the final interval, 80, is used and not the first, 250
pub full_lines : answered (500 ∷ 120 ∷ 0 ∷ 80 ∷ 300 ∷ []) 4 79 (pos 1 ∷ pos 0 ∷ pos 0 ∷ pos 7 ∷ negsuc 1 ∷ []) (pos 9 ∷ pos 9 ∷ pos 9 ∷ pos 9 ∷ pos 9 ∷ [])
    ≡ (accepted (record { full = 1; sampled = 7; m = 1; under_full = 2; under_sampled = 0; net = pos 6 }), pos 1 ∷ pos 0 ∷ pos 0 ∷ pos 7 ∷ negsuc 1 ∷ [])
unfolding project_lines_of lines_for each_projects figures_for split_of figures_from ledger_of running_total running_from rounds projection_at checked_lines checked_from checked_line lines_of lines_from total amount covers points div_up parts part_of overstated understated size_of is_under signed_of with_signs
full_lines = refl

-- error, interval and value are 10^11, and error × interval is 10^22
pub wide_amount : answered (100000000000 ∷ []) 1 0 (pos 100000000000 ∷ []) (pos 5 ∷ []) ≡ (overs 0 100000000000 1, pos 100000000000 ∷ [])
unfolding project_lines_of lines_for each_projects figures_for split_of figures_from ledger_of running_total running_from rounds projection_at checked_lines checked_from checked_line lines_of lines_from total amount covers points div_up parts part_of overstated understated size_of is_under signed_of with_signs
wide_amount = refl

-- a refused call leaves the amounts: an error on line 3, which is not drawn, of either kind; then lengths that differ, of the errors or of the
-- amounts, before a value that is too large
pub refusals : (answered claims 3 0 found before ≡ (refused 15 3, before))
    × (answered claims 3 0 (pos 7 ∷ pos 0 ∷ pos 10 ∷ negsuc 4 ∷ []) before ≡ (refused 15 3, before))
    × (answered claims 3 25 (pos 7 ∷ []) before ≡ (refused 13 0, before))
    × (answered claims 3 25 found (pos 1 ∷ pos 2 ∷ []) ≡ (refused 13 0, pos 1 ∷ pos 2 ∷ []))
    × (answered (10000000000001 ∷ []) 1 0 (pos 1 ∷ []) [] ≡ (refused 13 0, []))
    × (answered (10000000000001 ∷ []) 1 0 [] (pos 1 ∷ []) ≡ (refused 13 0, pos 1 ∷ []))
    × (answered (10000000000001 ∷ []) 1 0 (pos 1 ∷ []) (pos 1 ∷ []) ≡ (refused 3 0, pos 1 ∷ []))
unfolding project_lines_of lines_for each_projects figures_for split_of figures_from ledger_of running_total running_from rounds projection_at checked_lines checked_from checked_line lines_of lines_from total amount covers points div_up parts part_of overstated understated size_of is_under signed_of with_signs
refusals = (refl, refl, refl, refl, refl, refl, refl)
