-- Demand 3 holds of each stratum with book value, over its own starts, whatever the others' starts are. Assumes nothing.
use Prim.Native.Nat.{ℕ, ◌+◌, ◌≤◌, ◌<◌}
use native.Mathlib.Nat.{le_of_eq}
use native.Mathlib.Omega.{arith}
use mathlib.Core.Path.{◌≡◌, refl, sym, ap, subst, ◌∙◌}
use mathlib.Core.Bool.{true}
use mathlib.Core.List.{List, []}
use mathlib.Core.Logic.{⊎_elim}
use lib.IntN.{ℤ, pos}
use lib.ListN.{length, get_or, get_or-eq_default}
use Rattle.terms.specs.Outcome.{accepted}
use Rattle.terms.specs.Numbers.{sum}
use Rattle.terms.proofs.Tests.{le_or_lt}
use Rattle.signed.specs.declared.Part.TheVariants.{Size}
use Rattle.signed.specs.Parts.{part_of, parts}
use Rattle.signed.proofs.Laws.{part_none, parts_at}
use Rattle.split.specs.declared.Figures.{Figures}
use Rattle.split.specs.Split.{split_of}
use Rattle.split.specs.Start.{start_fits, figures_for}
use Rattle.split.proofs.Start.{from_split, start_inside}
use Rattle.draw.proofs.Laws.{marks_started}
use Rattle.project.specs.declared.Projection.{Projection}
use Rattle.project.specs.Project.{project_of}
use Rattle.project.proofs.Laws.{first_alone, project_from}
use Rattle.strata.specs.declared.Row.{Row}
use Rattle.strata.specs.Strata.{parts_of, no_row, plan_of}
use Rattle.strata.proofs.Planning.{parts_many}
use Rattle.strata.proofs.Entries.{entries_both, parts_long}
use Rattle.strata.proofs.Own.{own_split, own_draws}
use Rattle.stratified.specs.declared.projection.ProjectionRow.{ProjectionRow}
use Rattle.stratified.specs.Projection.{projection_row, no_projection, project_strata_of}
use Rattle.stratified.proofs.Laws.{first_of, OwnRow, strata_facts}
use Rattle.demands.specs.Starts.{Within}
use Rattle.demands.specs.Strata.{own_of, OwnStarts, Demand3Strata}
use Rattle.demands.proofs.Demand3.{demand_3}

-- errors within the lines' values are so in each stratum
own_within : (counts ledger : List ℕ) (errors : List ℤ) → Within ledger (parts Size errors) → (h : ℕ) → Within (own_of counts ledger h) (parts Size (own_of counts errors h))
unfolding Within
own_within counts ledger errors w h i =
    omega (
      arith,
      parts_at Size (own_of counts errors h) i,
      entries_both (pos 0) 0 counts errors ledger (λ (e : ℤ) (v : ℕ). part_of Size e ≤ v) (le_of_eq (part_none Size)) (λ j. omega (arith, w j, parts_at Size errors j)) h i,
    )

-- a stratum with value is one of them
inside : (counts ledger : List ℕ) (h : ℕ) → 0 < sum (own_of counts ledger h) → h < length counts
inside counts ledger h value =
    ⊎_elim (λ (p : length counts ≤ h). absurd (omega (arith, ap sum (get_or-eq_default (parts_of counts ledger) [] (subst (λ (k : ℕ). k ≤ h) (sym (parts_many counts ledger)) p)))))
    (λ (p : h < length counts). p) (le_or_lt (length counts) h)

module _ (ledger counts : List ℕ) (n : ℕ) (errors : List ℤ) (rows : List Row) (plan : plan_of ledger counts n true ≡ accepted rows) (within : Within ledger (parts Size errors)) where
  module _ (h : ℕ) (value : 0 < sum (own_of counts ledger h)) where
    own : split_of (own_of counts ledger h) (get_or rows h no_row).draws (length (own_of counts ledger h)) ≡ accepted (get_or rows h no_row).figures
    own = ap (λ (draws : ℕ). split_of (own_of counts ledger h) draws (length (own_of counts ledger h))) (own_draws ledger counts n true rows plan h value) ∙ own_split ledger counts n true rows plan h value

    started : (start beside : ℕ) → beside ≡ length (own_of counts ledger h) → start_fits start (get_or rows h no_row).figures.interval ≡ true →
        figures_for (own_of counts ledger h) (get_or rows h no_row).draws start beside ≡ accepted (get_or rows h no_row).figures
    started start beside same fits =
        let f : Figures = (get_or rows h no_row).figures in
        sym (start_inside start f refl fits ∙ from_split (own_of counts ledger h) (get_or rows h no_row).draws start beside (sym (ap (split_of (own_of counts ledger h) (get_or rows h no_row).draws) same ∙ own)))

    own_sums : (starts : List ℕ) (found : List ℤ) (projected : List ProjectionRow) → project_strata_of ledger counts n starts found ≡ accepted projected →
        (own : Projection) ×
        ((project_of (own_of counts ledger h) (get_or rows h no_row).draws (get_or starts h 0) (own_of counts found h) ≡ accepted own) × (get_or projected h no_projection ≡ projection_row (get_or rows h no_row) own))
    own_sums starts found projected e =
        let s = strata_facts ledger counts n starts found projected e in
        let same_rows : s.rows ≡ rows = let w = sym s.started.plan ∙ plan in cc in
        let here : h < length counts = inside counts ledger h value in
        let r = subst (λ (l : List Row). OwnRow (0 + first_of (parts_of counts ledger) h) (own_of counts ledger h) (get_or l h no_row) (get_or starts h 0) (own_of counts found h) (get_or projected h no_projection))
        same_rows (s.each h here) in
        let fits = subst (λ (l : List Row). start_fits (get_or starts h 0) (get_or l h no_row).figures.interval ≡ true) same_rows (s.started.fits h (omega (arith, s.started.as_many))) in
        let at = started (get_or starts h 0) (length (own_of counts found h)) (parts_long counts found ledger s.started.same h) fits in
        let plain = first_alone (0 + first_of (parts_of counts ledger) h) (get_or rows h no_row).figures.interval (get_or starts h 0) (own_of counts ledger h) (own_of counts found h) 0 r.sums r.own in
        (r.sums, (sym (project_from (own_of counts ledger h) (get_or rows h no_row).draws (get_or starts h 0) (own_of counts found h) (sym at)) ∙ plain, r.is))

    own_starts : OwnStarts ledger counts n errors (get_or rows h no_row) h
    own_starts =
        record {
          split = own;
          demand = demand_3 (own_of counts ledger h) (get_or rows h no_row).draws (own_of counts errors h) (get_or rows h no_row).figures own (own_within counts ledger errors within h);
          marks = λ start fits. sym (marks_started (own_of counts ledger h) (get_or rows h no_row).draws start (length (own_of counts ledger h)) (get_or rows h no_row).figures (started start _ refl fits) []);
          sums = own_sums;
        }

  pub demand_3_strata : Demand3Strata ledger counts n errors rows
  demand_3_strata = record { each = own_starts }
