-- More error never looks better in a ledger in strata, of every ledger, counts, n and starts; and one finding moves the row of its stratum alone.
-- Assumes nothing.
use Prim.Native.Nat.{ℕ, ◌+◌, ◌≤◌, ◌<◌}
use native.Mathlib.Nat.{le_refl}
use native.Mathlib.Omega.{arith}
use mathlib.Core.Path.{◌≡◌, refl, sym, ◌∙◌, subst, subst₂}
use mathlib.Core.List.{List}
use mathlib.Core.Logic.{⊎_elim}
use lib.IntN.{ℤ, pos}
use lib.ListN.{length, get_or, take, get_or-eq_default}
use lib.Seq.{ext_get_or}
use Rattle.terms.specs.Outcome.{Outcome, accepted, refused}
use Rattle.terms.specs.Numbers.{sum}
use Rattle.terms.proofs.Tests.{le_or_lt}
use Rattle.signed.specs.declared.Part.TheVariants.{Overstated}
use Rattle.signed.specs.Parts.{part_of}
use Rattle.project.proofs.Growing.{projection_up}
use Rattle.project.proofs.Changed.{AtLine, passes, too_large, not_drawn}
use Rattle.strata.specs.declared.Row.{Row}
use Rattle.strata.specs.Strata.{parts_of, no_row}
use Rattle.strata.proofs.Entries.{entry_at, entries_few, entries_both, parts_long}
use Rattle.stratified.specs.declared.projection.ProjectionRow.{ProjectionRow}
use Rattle.stratified.specs.Projection.{no_projection, project_strata_of}
use Rattle.stratified.proofs.Laws.{first_of, OwnRow, others_unseen, StrataFacts, strata_facts, over_all_up}
use Rattle.stratified.proofs.Changed.{strata_changed}
use Rattle.demands.specs.MoreError.{OneChanged, NoneLowered}
use Rattle.demands.specs.Strata.{own_of}
use Rattle.demands.specs.MoreErrorStrata.{RowNoBetter, StrataNoBetter, LineOf, CanProject, MoreErrorStrata}
use Rattle.demands.proofs.MoreError.{none_lowered, parts_less}

-- errors of which none is lower, in a stratum
own_less : (counts : List ℕ) (before now : List ℤ) → NoneLowered before now → (h : ℕ) → NoneLowered (own_of counts before h) (own_of counts now h)
own_less counts before now less h =
    entries_both (pos 0) (pos 0) counts before now (λ (x y : ℤ). part_of Overstated x ≤ part_of Overstated y) (le_refl (part_of Overstated (pos 0))) less h

-- errors that agree but at a line are the same in a stratum that it is not of
own_same : (counts : List ℕ) (line : ℕ) (before now : List ℤ) → length before ≡ length now → OneChanged line before now → (h : ℕ) → ¬ LineOf counts h line → own_of counts before h ≡ own_of counts now h
own_same counts line before now long others h apart =
    ext_get_or (pos 0) (own_of counts before h) (own_of counts now h) (parts_long counts before now long h)
    (λ i inside.
    let within : i < get_or counts h 0 = omega (arith, entries_few (pos 0) counts before h) in
    let other : ¬ (sum (take h counts) + i ≡ line) = λ e. apart (record { from = omega arith; to = omega arith }) in
    entry_at (pos 0) counts before h i within ∙ others (sum (take h counts) + i) other ∙ sym (entry_at (pos 0) counts now h i within))

-- one stratum, from its two sums
row_up : {at start : ℕ} {part : List ℕ} {row : Row} {es fs : List ℤ} {before now : ProjectionRow} → start ≤ row.figures.interval → NoneLowered es fs →
    OwnRow at part row start es before → OwnRow at part row start fs now → RowNoBetter before now
row_up {at} {start} {part} {row} {es} {fs} early less a b =
    let up = projection_up row.figures.interval start part es fs a.sums b.sums (parts_less es fs less) at early a.own b.own in
    subst₂ RowNoBetter (sym a.is) (sym b.is) (record { draws = refl; interval = refl; full = up.full; sampled = up.sampled })

row_same : (row : ProjectionRow) → RowNoBetter row row
row_same row = record { draws = refl; interval = refl; full = le_refl row.full; sampled = le_refl row.sampled }

-- two projections beside one ledger
module _ (ledger counts : List ℕ) (n : ℕ) (starts : List ℕ) (before now : List ℤ) (p q : List ProjectionRow) (e : project_strata_of ledger counts n starts before ≡ accepted p)
    (f : project_strata_of ledger counts n starts now ≡ accepted q) where
  abbrev first : StrataFacts ledger counts n starts before p
  first = strata_facts ledger counts n starts before p e

  abbrev second : StrataFacts ledger counts n starts now q
  second = strata_facts ledger counts n starts now q f

  -- as many errors, and the same plan
  same_long : length before ≡ length now
  same_long = first.started.same ∙ sym second.started.same

  same_plan : second.rows ≡ first.rows
  same_plan = let w = sym second.started.plan ∙ first.started.plan in cc

  -- so a stratum has its two rows from its own errors, all else the same
  abbrev OwnOf : List Row → List ℤ → List ProjectionRow → ℕ → Type 0
  OwnOf rows errors projected h =
      OwnRow (0 + first_of (parts_of counts ledger) h) (own_of counts ledger h) (get_or rows h no_row) (get_or starts h 0) (own_of counts errors h) (get_or projected h no_projection)

  second_own : (h : ℕ) → h < length counts → OwnOf first.rows now q h
  second_own h inside = subst (λ (rows : List Row). OwnOf rows now q h) same_plan (second.each h inside)

  -- past the last stratum there is no row
  none_past : (h : ℕ) → length counts ≤ h → get_or p h no_projection ≡ get_or q h no_projection
  none_past h end = get_or-eq_default p no_projection (omega (arith, first.many)) ∙ sym (get_or-eq_default q no_projection (omega (arith, second.many)))

  each_up : NoneLowered before now → (h : ℕ) → RowNoBetter (get_or p h no_projection) (get_or q h no_projection)
  each_up less h =
      ⊎_elim (λ (end : length counts ≤ h). subst (RowNoBetter (get_or p h no_projection)) (none_past h end) (row_same (get_or p h no_projection)))
      (λ (inside : h < length counts). row_up (first.started.early h) (own_less counts before now less h) (first.each h inside) (second_own h inside)) (le_or_lt (length counts) h)

  strata_up : NoneLowered before now → StrataNoBetter p q
  strata_up less =
      record {
        strata = first.many ∙ sym second.many;
        each = each_up less;
        projected = over_all_up p q (λ h. let up = each_up less h in omega (arith, up.full, up.sampled));
      }

  elsewhere : (line : ℕ) → OneChanged line before now → (h : ℕ) → ¬ LineOf counts h line → get_or p h no_projection ≡ get_or q h no_projection
  elsewhere line others h apart =
      ⊎_elim (none_past h)
      (λ (inside : h < length counts). let same = own_same counts line before now same_long others h apart in
      others_unseen (first.each h inside)
      (subst (λ (errors : List ℤ). OwnRow (0 + first_of (parts_of counts ledger) h) (own_of counts ledger h) (get_or first.rows h no_row) (get_or starts h 0) errors (get_or q h no_projection)) (sym same)
      (second_own h inside))) (le_or_lt (length counts) h)

-- one finding changed
can_project : (line : ℕ) {o : Outcome (List ProjectionRow)} → AtLine line o → CanProject line o
can_project line passes = CanProject.projected
can_project line (too_large same) = subst (λ (at : ℕ). CanProject line (refused 14 at)) (sym same) CanProject.too_large
can_project line (not_drawn same) = subst (λ (at : ℕ). CanProject line (refused 15 at)) (sym same) CanProject.not_drawn

pub more_error_strata : (ledger counts : List ℕ) (n : ℕ) (starts : List ℕ) → MoreErrorStrata ledger counts n starts
more_error_strata ledger counts n starts =
    record {
      changed = λ line before now long others p e. can_project line (strata_changed ledger counts n starts line before now p (sym long) others e);
      elsewhere = λ line before now others p q e f. elsewhere ledger counts n starts before now p q e f line others;
      one = λ line before now raised p q e f. strata_up ledger counts n starts before now p q e f (none_lowered line before now raised);
      several = λ before now less p q e f. strata_up ledger counts n starts before now p q e f less;
    }
