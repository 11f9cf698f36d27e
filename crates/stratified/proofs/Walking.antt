-- The projection by strata, as the loop from stratum to stratum meets it. Assumes nothing.
use mathlib.Core.Path.{◌≡◌, refl, sym, ap, subst, ◌∙◌}
use Rattle.std.specs.Prelude.{Ok, Err}
use mathlib.Core.Bool.{Bool, true, false}
use mathlib.Core.List.{List, [], ◌∷◌, ◌++◌, append-nil}
use Prim.Native.Nat.{ℕ, ◌+◌, ◌-◌, ◌≤◌, ◌<◌, zero-le}
use native.Mathlib.Omega.{arith}
use borrow.Author.Tests.{eqb-true, eqb-false}
use lib.Dec.{eqb}
use lib.IntN.{ℤ}
use lib.ListN.{length, get_or, take, drop, set, replicate}
use lib.Seq.{drop-drop, append_snoc, get_or-set_same, get_or-set_other}
use Rattle.terms.specs.declared.Refusal.{Refusal}
use Rattle.terms.specs.Outcome.{Outcome, accepted, refused, refused_by, after}
use Rattle.terms.specs.Limits.{most_strata}
use Rattle.terms.specs.Numbers.{pad_to}
use Rattle.terms.proofs.Filling.{Coming, coming_none, coming_next, coming_end}
use Rattle.draw.proofs.Row.{row_sum}
use Rattle.signed.specs.declared.Part.TheVariants.{Overstated, Understated}
use Rattle.project.specs.declared.Projection.{Projection}
use Rattle.project.specs.Project.{projection_at, Ready}
use Rattle.project.proofs.Laws.{projected_facts}
use Rattle.strata.specs.declared.Row.{Row}
use Rattle.strata.specs.Strata.{parts_of, no_row}
use Rattle.strata.proofs.Pieces.{part_sum, here_at, Place, place_none, reach, place_next, parts_past, part_at, to_come, later_on, come_on, part_long}
use Rattle.strata.proofs.Padded.{padded_at}
use Rattle.stratified.specs.declared.projection.ProjectionRow.{ProjectionRow}
use Rattle.stratified.specs.Marks.{Underway}
use Rattle.stratified.specs.Projection.{projection_row, no_projection, projected_from, over_of, under_of, most_of, Smalls, Walked}
use Rattle.stratified.proofs.Marking.{interval_at}

-- ---- small rows

-- a stratum's sums of a kind: at most its lines, and at most its row and one interval
module _ (item J start : ℕ) (lines : List ℕ) (errors : List ℤ) (row : Row) (sums : Projection) (ready : Ready item J start lines errors) (is : projection_at item J start lines errors ≡ accepted sums) where
  over_small : over_of (projection_row row sums) ≤ most_of
  over_small =
      let facts = projected_facts item J start lines errors sums ready.early is in
      let f = facts.facts Overstated in
      let n = ready.narrow in
      let s = ready.summed in
      omega (arith, ap (λ (p : Projection). p.full) facts.answer, ap (λ (p : Projection). p.sampled) facts.answer, f.full_most, f.sampled_most, row_sum J lines)

  under_small : under_of (projection_row row sums) ≤ most_of
  under_small =
      let facts = projected_facts item J start lines errors sums ready.early is in
      let f = facts.facts Understated in
      let n = ready.narrow in
      let s = ready.summed in
      omega (arith, ap (λ (p : Projection). p.under_full) facts.answer, ap (λ (p : Projection). p.under_sampled) facts.answer, f.full_most, f.sampled_most, row_sum J lines)

smalls_none : Smalls (replicate 32 no_projection)
unfolding pad_to
smalls_none =
    let entry : (h : ℕ) → get_or (replicate 32 no_projection) h no_projection ≡ no_projection = λ h. padded_at no_projection 32 [] h in
    record {
      over = λ h. subst (λ (r : ProjectionRow). over_of r ≤ most_of) (sym (entry h)) zero-le;
      under = λ h. subst (λ (r : ProjectionRow). under_of r ≤ most_of) (sym (entry h)) zero-le;
    }

smalls_set : (f : ProjectionRow → ℕ) (rows : List ProjectionRow) (h : ℕ) (row : ProjectionRow) → h < length rows → f row ≤ most_of → ((k : ℕ) → f (get_or rows k no_projection) ≤ most_of) →
    (k : ℕ) → f (get_or (set rows h row) k no_projection) ≤ most_of
smalls_set f rows h row inside small each k = go (eqb k h) refl
  where
    go : (b : Bool) → eqb k h ≡ b → f (get_or (set rows h row) k no_projection) ≤ most_of
    go true e =
        subst (λ (r : ProjectionRow). f r ≤ most_of) (sym (ap (λ (i : ℕ). get_or (set rows h row) i no_projection) (eqb-true k h e) ∙ get_or-set_same rows h row no_projection inside)) small
    go false e = subst (λ (r : ProjectionRow). f r ≤ most_of) (sym (get_or-set_other rows h k row no_projection (eqb-false k h e))) (each k)

-- ---- the walk

module _ {A : Type 0} where
  after_same : (o : Outcome (List A)) → after (λ l. accepted l) o ≡ o
  after_same (accepted l) = refl
  after_same (refused number place) = refl

  after_more : (l m : List A) (x : A) (o : Outcome (List A)) → ((k : List A) → l ++ (x ∷ k) ≡ m ++ k) →
      after (λ others. accepted (l ++ others)) (after (λ others. accepted (x ∷ others)) o) ≡ after (λ others. accepted (m ++ others)) o
  after_more l m x (accepted k) e = ap accepted (e k)
  after_more l m x (refused number place) e = refl

-- the definition, as the loop meets it
projected_on : (at : ℕ) (lines : List ℕ) (later : List (List ℕ)) (rows : List Row) (starts : List ℕ) (h : ℕ) (own : List ℤ) (others : List (List ℤ)) →
    projected_from at (lines ∷ later) (drop h rows) (drop h starts) (own ∷ others)
    ≡ after (λ sums. after (λ more. accepted (projection_row (get_or rows h no_row) sums ∷ more)) (projected_from (at + length lines) later (drop (h + 1) rows) (drop (h + 1) starts) others))
    (projection_at at (interval_at rows h) (get_or starts h 0) lines own)
unfolding projected_from
projected_on at lines later rows starts h own others =
    λ i. after (λ sums. after (λ more. accepted (projection_row (here_at h rows no_row i) sums ∷ more)) (projected_from (at + length lines) later (drop-drop 1 h rows i) (drop-drop 1 h starts i) others))
    (projection_at at (here_at h rows no_row i).figures.interval (here_at h starts 0 i) lines own)

projected_none : (at : ℕ) (rows : List Row) (starts : List ℕ) (errors : List (List ℤ)) → projected_from at [] rows starts errors ≡ accepted []
unfolding projected_from
projected_none at rows starts errors = refl

-- the rows of all strata, and of those to come
abbrev pub all_rows : List ℕ → List ℕ → List Row → List ℕ → List ℤ → Outcome (List ProjectionRow)
all_rows ledger counts rows starts errors = projected_from 0 (parts_of counts ledger) rows starts (parts_of counts errors)

abbrev rows_to_come : List ℕ → List ℕ → List Row → List ℕ → List ℤ → ℕ → ℕ → Outcome (List ProjectionRow)
rows_to_come ledger counts rows starts errors at h = projected_from at (to_come ledger counts at h) (drop h rows) (drop h starts) (to_come errors counts at h)

-- the rows of the strata before h are written, and the whole follows from them and the strata to come
pub record Walking (ledger counts : List ℕ) (plan : List Row) (starts : List ℕ) (errors : List ℤ) (rows : List ProjectionRow) (at h : ℕ) : Type 0 where
  pub given : Underway ledger counts plan starts (length errors)
  pub place : Place ledger counts at h
  pub filled : Coming most_strata no_projection (take h rows) [] rows h
  pub small : Smalls rows
  pub rest : after (λ others. accepted (take h rows ++ others)) (rows_to_come ledger counts plan starts errors at h) ≡ all_rows ledger counts plan starts errors

pub walking_none : {ledger counts : List ℕ} {plan : List Row} {starts : List ℕ} {errors : List ℤ} → Underway ledger counts plan starts (length errors) →
    Walking ledger counts plan starts errors (replicate 32 no_projection) 0 0
walking_none {ledger} {counts} {plan} {starts} {errors} given =
    record { given = given; place = place_none given.parted.add; filled = coming_none; small = smalls_none; rest = after_same (all_rows ledger counts plan starts errors) }

module _ {ledger counts : List ℕ} {plan : List Row} {starts : List ℕ} {errors : List ℤ} {rows : List ProjectionRow} {at h : ℕ} (so_far : Walking ledger counts plan starts errors rows at h) where
  module _ (inside : h < length counts) where
    far : at + get_or counts h 0 ≤ length ledger
    far = reach so_far.place inside

    pub errors_far : at + get_or counts h 0 ≤ length errors
    errors_far = omega (arith, far, so_far.given.same)

    pub walking_asks : Ready at (interval_at plan h) (get_or starts h 0) (part_at ledger counts at h) (part_at errors counts at h)
    walking_asks =
        let g = so_far.given in
        let m = g.parted.most in
        record {
          few = omega (arith, far, part_long ledger counts at h far, g.few);
          same = part_long errors counts at h errors_far ∙ sym (part_long ledger counts at h far);
          narrow = omega (arith, g.narrow h);
          early = g.early h;
          summed = omega (arith, part_sum (at + get_or counts h 0 - at) at ledger);
        }

    abbrev own : Outcome Projection
    own = projection_at at (interval_at plan h) (get_or starts h 0) (part_at ledger counts at h) (part_at errors counts at h)

    abbrev later : Outcome (List ProjectionRow)
    later = projected_from (at + get_or counts h 0) (later_on ledger counts at h) (drop (h + 1) plan) (drop (h + 1) starts) (later_on errors counts at h)

    -- what was to come, from the stratum at hand
    come_rows : rows_to_come ledger counts plan starts errors at h ≡ after (λ sums. after (λ more. accepted (projection_row (get_or plan h no_row) sums ∷ more)) later) own
    come_rows =
        (λ i. projected_from at (come_on ledger counts at h inside i) (drop h plan) (drop h starts) (come_on errors counts at h inside i))
        ∙ projected_on at (part_at ledger counts at h) (later_on ledger counts at h) plan starts h (part_at errors counts at h) (later_on errors counts at h)
        ∙ ap (λ (k : ℕ). after (λ sums. after (λ more. accepted (projection_row (get_or plan h no_row) sums ∷ more))
        (projected_from (at + k) (later_on ledger counts at h) (drop (h + 1) plan) (drop (h + 1) starts) (later_on errors counts at h))) own) (part_long ledger counts at h far)

    pub walking_refused : (why : Refusal) → refused_by why ≡ projection_at at (interval_at plan h) (get_or starts h 0) (part_at ledger counts at h) (part_at errors counts at h) →
        Walked (all_rows ledger counts plan starts errors) (Err why)
    walking_refused why e =
        let whole : refused_by why ≡ all_rows ledger counts plan starts errors =
        sym (ap (after (λ others. accepted (take h rows ++ others))) (come_rows ∙ ap (after (λ sums. after (λ more. accepted (projection_row (get_or plan h no_row) sums ∷ more)) later)) (sym e))) ∙ so_far.rest in
        record { answer = ap (after (λ rows. accepted (pad_to most_strata no_projection rows))) whole; small = tt }

    module _ {sums : Projection} (said : accepted sums ≡ projection_at at (interval_at plan h) (get_or starts h 0) (part_at ledger counts at h) (part_at errors counts at h)) where
      pub walking_next : {row : ProjectionRow} → row ≡ projection_row (get_or plan h no_row) sums →
          Walking ledger counts plan starts errors (set rows h row) (at + get_or counts h 0) (h + 1)
      walking_next {row} made =
          let e : own ≡ accepted sums = sym said in
          let few = so_far.given.parted.few in
          let long = so_far.filled.long in
          let room : h < most_strata = omega arith in
          let filled : Coming most_strata no_projection (take h rows ++ (row ∷ [])) [] (set rows h row) (h + 1) =
          coming_next (record { long = long; written = refl; past = so_far.filled.past }) row [] room refl in
          let first : take (h + 1) (set rows h row) ≡ take h rows ++ (row ∷ []) = sym (append-nil (take (h + 1) (set rows h row))) ∙ filled.written in
          let come : rows_to_come ledger counts plan starts errors at h ≡ after (λ more. accepted (row ∷ more)) later =
          come_rows ∙ ap (after (λ sums. after (λ more. accepted (projection_row (get_or plan h no_row) sums ∷ more)) later)) e
          ∙ ap (λ (r : ProjectionRow). after (λ more. accepted (r ∷ more)) later) (sym made) in
          let ready = walking_asks in
          let over : over_of row ≤ most_of = subst (λ (r : ProjectionRow). over_of r ≤ most_of) (sym made) (over_small at _ _ _ _ (get_or plan h no_row) sums ready e) in
          let under : under_of row ≤ most_of = subst (λ (r : ProjectionRow). under_of r ≤ most_of) (sym made) (under_small at _ _ _ _ (get_or plan h no_row) sums ready e) in
          record {
            given = so_far.given;
            place = place_next so_far.place inside;
            filled = subst (λ (l : List ProjectionRow). Coming most_strata no_projection l [] (set rows h row) (h + 1)) (sym first) filled;
            small = record {
              over = smalls_set over_of rows h row (omega arith) over so_far.small.over;
              under = smalls_set under_of rows h row (omega arith) under so_far.small.under;
            };
            rest =
                sym (after_more (take h rows) (take (h + 1) (set rows h row)) row later (λ k. sym (append_snoc (take h rows) row k) ∙ ap (λ (l : List ProjectionRow). l ++ k) (sym first)))
                ∙ sym (ap (after (λ others. accepted (take h rows ++ others))) come) ∙ so_far.rest;
          }

  pub walking_end : length counts ≤ h → Walked (all_rows ledger counts plan starts errors) (Ok rows)
  walking_end end =
      let few = so_far.given.parted.few in
      let within = so_far.place.within in
      let long = so_far.filled.long in
      let none : rows_to_come ledger counts plan starts errors at h ≡ accepted [] =
      (λ i. projected_from at (parts_past ledger counts at h end i) (drop h plan) (drop h starts) (to_come errors counts at h)) ∙ projected_none at (drop h plan) (drop h starts) (to_come errors counts at h) in
      let whole : accepted (take h rows) ≡ all_rows ledger counts plan starts errors =
      ap accepted (sym (append-nil (take h rows))) ∙ sym (ap (after (λ others. accepted (take h rows ++ others))) none) ∙ so_far.rest in
      record { answer = ap accepted (coming_end so_far.filled (omega arith) refl) ∙ ap (after (λ rows. accepted (pad_to most_strata no_projection rows))) whole; small = so_far.small }
