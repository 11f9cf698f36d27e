-- Demand 3 holds of every ledger and number of draws that the split accepts, and of every true error from -v to v on a line of v, for each kind by
-- itself. Assumes nothing.
use Prim.Native.Nat.{ℕ, ◌/◌, ◌<◌}
use native.Mathlib.Nat.{zero-div, eq-zero-or-pos}
use native.Mathlib.Omega.{arith}
use mathlib.Core.Path.{◌≡◌, sym, ap, ◌∙◌}
use mathlib.Core.Bool.{Bool, true, false}
use mathlib.Core.List.{List, []}
use mathlib.Core.Logic.{⊎_elim}
use lib.Dec.{eqb}
use lib.IntN.{ℤ, pos}
use lib.ListN.{length, get_or}
use Rattle.terms.specs.Outcome.{accepted}
use Rattle.signed.specs.declared.Part.{Part}
use Rattle.signed.specs.declared.Part.TheVariants.{Overstated, Understated, Size}
use Rattle.signed.specs.Parts.{kind_of, parts}
use Rattle.signed.proofs.Laws.{part_most, part_is_size, parts_at}
use Rattle.split.specs.declared.Figures.{Figures}
use Rattle.split.specs.Split.{split_of}
use Rattle.split.specs.Start.{figures_for}
use Rattle.split.proofs.Facts.{split_facts}
use Rattle.split.proofs.Start.{start_facts, start_accepted, start_zero}
use Rattle.draw.specs.Row.{row_cents, marks_from, draw_marks, ones}
use Rattle.draw.proofs.Laws.{draw_marks_lem, marks_started, draw_started, draw_accepted, row_figures}
use Rattle.project.specs.declared.Sums.{Sums}
use Rattle.project.specs.Lines.{lines_from, sampled_part, total, sums_of}
use Rattle.project.specs.Project.{checked_from, lines_with, projection_of, project_of}
use Rattle.project.proofs.Lines.{lines_of_lem}
use Rattle.project.proofs.Laws.{checked_of, projection_by, project_from}
use Rattle.demands.specs.Starts.{sum_below, one_if, Within, entered}
use Rattle.demands.specs.Demand3.{marks_for, projected_for, sampled_in, full_in, DrawsAt, EveryStart, AllStarts, Demand3}
use Rattle.demands.proofs.Sums.{sum_cong}
use Rattle.demands.proofs.Fair.{drawn_each, entered_lines, weighted, projected_all, full_all, least_all, most_all, entered_clean, entered_length, entered_part}

-- where there is an interval, the sampled lines have value
some_sampled : (J total draws : ℕ) → J ≡ total / draws → 0 < J → 0 < total
some_sampled J total draws e some = ⊎_elim (λ (z : total ≡ 0). absurd (omega (arith, e ∙ ap (λ (n : ℕ). n / draws) z ∙ zero-div draws))) (λ p. p) (eq-zero-or-pos total)

-- a part is within where the size is
part_within : (p : Part) (ledger : List ℕ) (errors : List ℤ) → Within ledger (parts Size errors) → Within ledger (parts p errors)
unfolding Within
part_within p ledger errors within item =
    omega (arith, within item, parts_at p errors item, parts_at Size errors item, part_most p (get_or errors item (pos 0)), part_is_size (get_or errors item (pos 0)))

module _ (ledger : List ℕ) (n : ℕ) (errors : List ℤ) (f : Figures) (split : split_of ledger n (length ledger) ≡ accepted f) (within : Within ledger (parts Size errors)) where
  -- what the operations answer at an accepted start
  module _ (start : ℕ) (started : figures_for ledger n start (length ledger) ≡ accepted f) where
    marks_are : marks_for ledger n start ≡ draw_marks f.interval start ledger
    marks_are = marks_started ledger n start (length ledger) f started []

    draw_is : DrawsAt ledger n start
    draw_is = (ones (draw_marks f.interval start ledger), draw_started ledger n start (length ledger) f started)

    -- the sums of each kind, as at a start where that part of the errors is entered
    abbrev sums_at : Part → Sums
    sums_at p = sums_of (entered_lines f.interval start 0 ledger (parts p errors))

    project_is : projected_for ledger n errors start ≡ accepted (projection_of (sums_at Overstated) (sums_at Understated))
    project_is =
        let J : ℕ = f.interval in
        let es : List ℤ = entered (pos 0) (marks_from J start 0 ledger) errors in
        let lines : (p : Part) → lines_with p J start ledger es ≡ entered_lines J start 0 ledger (parts p errors) =
        λ p. lines_of_lem J start ledger (parts p es) ∙ ap (lines_from J start 0 ledger) (entered_part p (marks_from J start 0 ledger) errors) in
        ap (λ (marks : List ℕ). project_of ledger n start (entered (pos 0) marks errors)) (marks_are ∙ draw_marks_lem J start ledger)
        ∙ sym (project_from ledger n start es (sym (ap (figures_for ledger n start) (entered_length (pos 0) J start 0 ledger errors) ∙ started)))
        ∙ projection_by 0 J start ledger es (checked_of 0 J start ledger (parts Size es) ∙ ap (checked_from 0) (lines Size) ∙ entered_clean J start 0 0 ledger (parts Size errors) within)
        ∙ (λ i. accepted (projection_of (sums_of (lines Overstated i)) (sums_of (lines Understated i))))

    -- a kind's sums in the answer
    sampled_in_lem : (under : Bool) → sampled_in under (projected_for ledger n errors start) ≡ (sums_at (kind_of under)).sampled
    sampled_in_lem false = ap (sampled_in false) project_is
    sampled_in_lem true = ap (sampled_in true) project_is

    full_in_lem : (under : Bool) → full_in under (projected_for ledger n errors start) ≡ (sums_at (kind_of under)).full
    full_in_lem false = ap (full_in false) project_is
    full_in_lem true = ap (full_in true) project_is

  -- a start below the interval is accepted, and so is each that the draw accepts
  below : (start : ℕ) → start < f.interval → figures_for ledger n start (length ledger) ≡ accepted f
  below start h = start_accepted ledger n start (length ledger) f split h

  by_draw : (start : ℕ) → DrawsAt ledger n start → figures_for ledger n start (length ledger) ≡ accepted f
  by_draw start (lines, drawn) =
      let a = draw_accepted ledger n start (length ledger) lines drawn in
      let its : split_of ledger n (length ledger) ≡ accepted a.0 = (start_facts ledger n start (length ledger) a.0 a.1).split in
      let same : a.0 ≡ f = let w = sym its ∙ split in cc in
      a.1 ∙ ap accepted same

  pub every_start : EveryStart ledger n errors f
  every_start =
      record {
        draws = λ start h. draw_is start (below start (omega (arith, h)));
        draws_none = λ none. draw_is 0 (start_zero ledger n 0 (length ledger) f split (omega (arith, none)) (omega arith));
        answers = λ start drawn. (_, project_is start (by_draw start drawn));
        exact = λ under start drawn. full_in_lem start (by_draw start drawn) under ∙ full_all f.interval start 0 ledger (parts (kind_of under) errors);
      }

  pub all_starts : 0 < f.interval → (under : Bool) → AllStarts ledger n errors f under
  all_starts some under =
      let J : ℕ = f.interval in
      let own : List ℕ = parts (kind_of under) errors in
      let facts = split_facts ledger n (length ledger) f split in
      let row : row_cents J ledger ≡ f.sampled_total = row_figures facts in
      let sampled : sum_below J (λ start. sampled_in under (projected_for ledger n errors start)) ≡ weighted J ledger own =
      sum_cong J _ (λ start. total sampled_part (entered_lines J start 0 ledger own)) (λ start h. sampled_in_lem start (below start h) under)
      ∙ projected_all J some 0 ledger own in
      record {
        drawn = λ item inside small.
            sum_cong J _ (λ start. one_if (eqb (get_or (draw_marks J start ledger) item 0) 1)) (λ start h. ap (λ (marks : List ℕ). one_if (eqb (get_or marks item 0) 1)) (marks_are start (below start h)))
            ∙ drawn_each J some ledger item inside (omega (arith, small));
        least = omega (arith, sampled, least_all J ledger own (part_within (kind_of under) ledger errors within));
        most = omega (arith, sampled, most_all J ledger own, row, some_sampled J f.sampled_total f.draws_left facts.final some);
      }

  pub demand_3 : Demand3 ledger n errors f
  demand_3 = record { every_start = every_start; all_starts = all_starts }
