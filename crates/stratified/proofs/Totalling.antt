-- What the strata's rows add to, and the answer of the projection by strata. Assumes nothing.
use mathlib.Core.Path.{◌≡◌, refl, sym, ap, ◌∙◌}
use Rattle.std.specs.Prelude.{Result, Ok, Err}
use Rattle.std.specs.Result.{result_unwrap_or}
use mathlib.Core.Bool.{false}
use mathlib.Core.List.{List, [], ◌∷◌, ◌++◌, map}
use Prim.Native.Nat.{ℕ, zero, suc, ◌+◌, ◌-◌, ◌*◌, ◌≤◌, ◌<◌}
use native.Mathlib.Nat.{zero-add}
use native.Mathlib.Numerals.{add-one}
use native.Mathlib.Omega.{arith}
use lib.IntN.{ℤ, pos, ◌-ℤ◌}
use lib.ListN.{length, get_or, drop, replicate, drop_of_length-le}
use lib.Seq.{drop-cons}
use Rattle.terms.specs.declared.Refusal.{Refusal}
use Rattle.terms.specs.Outcome.{Outcome, accepted, refused, refused_by, after, left, says}
use Rattle.terms.specs.Limits.{most_strata}
use Rattle.terms.specs.Numbers.{sum, pad_to}
use Rattle.terms.proofs.Outcomes.{never, after_accepted}
use Rattle.signed.specs.Errors.{most_size}
use Rattle.signed.proofs.Laws.{least_most}
use Rattle.strata.specs.declared.Row.{Row}
use Rattle.strata.specs.declared.Planned.{Planned}
use Rattle.strata.specs.Strata.{parts_of, no_row, PlanPromise}
use Rattle.strata.specs.Starts.{started_of}
use Rattle.strata.proofs.Padded.{padded_at, Alike, alike_later}
use Rattle.strata.proofs.Planning.{promised_rows, promised_refusal, parts_many}
use Rattle.project.specs.Project.{projection_at}
use Rattle.stratified.specs.declared.projection.ProjectionRow.{ProjectionRow}
use Rattle.stratified.specs.declared.projection.ProjectedStrata.{ProjectedStrata}
use Rattle.stratified.specs.declared.totals.Totals.{Totals}
use Rattle.stratified.specs.Projection.{projection_row, no_projection, projected_from, project_strata_of, over_of, under_of, over_all, under_all, sums_with, most_of, Smalls, TotalsOf, Walked, with_totals, ProjectStrataPromise}
use Rattle.stratified.proofs.Laws.{rows_long}

-- of each kind: the rows from one on
over_on : (rows : List ProjectionRow) (h : ℕ) → h < length rows → over_all (drop h rows) ≡ over_of (get_or rows h no_projection) + over_all (drop (h + 1) rows)
unfolding over_all
over_on rows h inside = rw (drop-cons rows h no_projection inside, add-one)

under_on : (rows : List ProjectionRow) (h : ℕ) → h < length rows → under_all (drop h rows) ≡ under_of (get_or rows h no_projection) + under_all (drop (h + 1) rows)
unfolding under_all
under_on rows h inside = rw (drop-cons rows h no_projection inside, add-one)

over_past : (rows : List ProjectionRow) (h : ℕ) → length rows ≤ h → over_all (drop h rows) ≡ 0
unfolding over_all
over_past rows h end = ap (λ (l : List ProjectionRow). sum (map over_of l)) (drop_of_length-le rows end)

under_past : (rows : List ProjectionRow) (h : ℕ) → length rows ≤ h → under_all (drop h rows) ≡ 0
unfolding under_all
under_past rows h end = ap (λ (l : List ProjectionRow). sum (map under_of l)) (drop_of_length-le rows end)

-- `totals_of`: the rows before h are added
pub record Totalling (rows : List ProjectionRow) (over under h : ℕ) : Type 0 where
  pub given : Smalls rows
  pub strata : length rows ≡ 32
  pub inside : h ≤ 32
  pub overs : over + over_all (drop h rows) ≡ over_all rows
  pub unders : under + under_all (drop h rows) ≡ under_all rows
  pub over_most : over ≤ most_of * h
  pub under_most : under ≤ most_of * h

module _ {rows : List ProjectionRow} {over under h : ℕ} (at : Totalling rows over under h) where
  pub totalling_next : h < 32 → Totalling rows (over + ((get_or rows h no_projection).full + (get_or rows h no_projection).sampled))
      (under + ((get_or rows h no_projection).under_full + (get_or rows h no_projection).under_sampled)) (h + 1)
  totalling_next room =
      let s = at.strata in
      let inside : h < length rows = omega arith in
      record {
        given = at.given;
        strata = at.strata;
        inside = omega arith;
        overs = omega (arith, at.overs, over_on rows h inside);
        unders = omega (arith, at.unders, under_on rows h inside);
        over_most = omega (arith, at.given.over h, at.over_most);
        under_most = omega (arith, at.given.under h, at.under_most);
      }

  pub totalling_end : 32 ≤ h → TotalsOf rows (record { over = over; under = under })
  totalling_end end =
      let s = at.strata in
      let i = at.inside in
      record {
        over = omega (arith, at.overs, over_past rows h (omega arith));
        under = omega (arith, at.unders, under_past rows h (omega arith));
        over_most = omega (arith, at.over_most);
        under_most = omega (arith, at.under_most);
      }

-- `with_totals`
module _ {rows : List ProjectionRow} {t : Totals} (of : TotalsOf rows t) where
  pub over_signed : t.over ≤ most_size false
  over_signed = omega (arith, of.over_most, least_most false)

  pub under_signed : t.under ≤ most_size false
  under_signed = omega (arith, of.under_most, least_most false)

-- rows of 0 past the last add nothing
over_more : (rows : List ProjectionRow) (k : ℕ) → over_all (rows ++ replicate k no_projection) ≡ over_all rows
unfolding over_all
over_more [] zero = refl
over_more [] (suc k) = zero-add _ ∙ over_more [] k
over_more (row ∷ rows) k = ap (λ (s : ℕ). over_of row + s) (over_more rows k)

under_more : (rows : List ProjectionRow) (k : ℕ) → under_all (rows ++ replicate k no_projection) ≡ under_all rows
unfolding under_all
under_more [] zero = refl
under_more [] (suc k) = zero-add _ ∙ under_more [] k
under_more (row ∷ rows) k = ap (λ (s : ℕ). under_of row + s) (under_more rows k)

pub over_padded : (m : ℕ) (rows : List ProjectionRow) → over_all (pad_to m no_projection rows) ≡ over_all rows
unfolding pad_to
over_padded m rows = over_more rows (m - length rows)

pub under_padded : (m : ℕ) (rows : List ProjectionRow) → under_all (pad_to m no_projection rows) ≡ under_all rows
unfolding pad_to
under_padded m rows = under_more rows (m - length rows)

-- the rows in an array, with what they add to
totalled : (strata : ℕ) (rows : List ProjectionRow) → strata ≡ length rows → with_totals strata (pad_to most_strata no_projection rows) ≡ sums_with rows
totalled strata rows many =
    λ i. record {
      strata = many i;
      over = over_padded most_strata rows i;
      under = under_padded most_strata rows i;
      net = pos (over_padded most_strata rows i) -ℤ pos (under_padded most_strata rows i);
      rows = pad_to most_strata no_projection rows;
    }

-- a refusal is the same whatever follows
refused_alike : {A B C : Type 0} (f : A → B) (g : A → C) (o : Outcome A) (why : Refusal) → refused_by why ≡ after (λ a. accepted (f a)) o → refused_by why ≡ after (λ a. accepted (g a)) o
refused_alike f g (accepted a) why e = never e
refused_alike f g (refused number place) why e = cc

-- the projection, or none
pub or_none : (r : Result ProjectedStrata Refusal) →
    result_unwrap_or r (record { strata = 0; over = 0; under = 0; net = pos 0; rows = replicate 32 no_projection }) ≡ left (λ p. p) (sums_with []) (says r)
unfolding pad_to over_all under_all
or_none (Ok p) = refl
or_none (Err why) = refl

-- the walk reads the rows of the plan by their entries
rows_alike : (at : ℕ) (parts : List (List ℕ)) (rows others : List Row) (starts : List ℕ) (errors : List (List ℤ)) → Alike no_row rows others →
    projected_from at parts rows starts errors ≡ projected_from at parts others starts errors
unfolding projected_from
rows_alike at [] rows others starts errors same = refl
rows_alike at (part ∷ parts) rows others starts errors same =
    λ i. after (λ sums. after (λ more. accepted (projection_row (same 0 i) sums ∷ more))
    (rows_alike (at + length part) parts (drop 1 rows) (drop 1 others) (drop 1 starts) (drop 1 errors) (alike_later no_row rows others same) i))
    (projection_at at (same 0 i).figures.interval (get_or starts 0 0) part (get_or errors 0 []))

-- the answer, as `project_strata` meets it
module _ (ledger counts : List ℕ) (n : ℕ) (starts : List ℕ) (errors : List ℤ) where
  abbrev walk_of : List Row → Outcome (List ProjectionRow)
  walk_of rows = projected_from 0 (parts_of counts ledger) rows starts (parts_of counts errors)

  abbrev started : Outcome (List Row)
  started = started_of ledger counts n starts (length errors)

  from_started : after walk_of started ≡ project_strata_of ledger counts n starts errors
  unfolding project_strata_of
  from_started = refl

  pub strata_refused : (why : Refusal) → PlanPromise (started_of ledger counts n starts (length errors)) (Err why) → ProjectStrataPromise (project_strata_of ledger counts n starts errors) (Err why)
  strata_refused why m = ap (after (λ rows. accepted (sums_with rows))) (sym (ap (after walk_of) (promised_refusal started why m)) ∙ from_started)

  module _ {p : Planned} (m : PlanPromise (started_of ledger counts n starts (length errors)) (Ok p)) where
    -- the walk over the plan's rows, which stand in an array
    from_walk : walk_of p.rows ≡ project_strata_of ledger counts n starts errors
    from_walk =
        let o = promised_rows started m in
        let rows : List Row = o.0 in
        ap (λ (q : Planned). walk_of q.rows) o.1.1
        ∙ rows_alike 0 (parts_of counts ledger) (pad_to most_strata no_row rows) rows starts (parts_of counts errors) (padded_at no_row most_strata rows)
        ∙ sym (ap (after walk_of) o.1.0) ∙ from_started

    pub walk_refused : (why : Refusal) → Walked (projected_from 0 (parts_of counts ledger) p.rows starts (parts_of counts errors)) (Err why) →
        ProjectStrataPromise (project_strata_of ledger counts n starts errors) (Err why)
    walk_refused why w = refused_alike (pad_to most_strata no_projection) sums_with (walk_of p.rows) why w.answer ∙ ap (after (λ rows. accepted (sums_with rows))) from_walk

    pub strata_projected : {rows : List ProjectionRow} {r : ProjectedStrata} → Walked (projected_from 0 (parts_of counts ledger) p.rows starts (parts_of counts errors)) (Ok rows) →
        r ≡ with_totals (length counts) rows → ProjectStrataPromise (project_strata_of ledger counts n starts errors) (Ok r)
    strata_projected {rows} {r} w is =
        let a = after_accepted (λ (l : List ProjectionRow). accepted (pad_to most_strata no_projection l)) (walk_of p.rows) rows (sym w.answer) in
        let own : List ProjectionRow = a.0 in
        let array : pad_to most_strata no_projection own ≡ rows = let f = a.2 in cc in
        let many : length counts ≡ length own = sym (rows_long 0 (parts_of counts ledger) p.rows starts (parts_of counts errors) own a.1 ∙ parts_many counts ledger) in
        ap accepted (is ∙ ap (with_totals (length counts)) (sym array) ∙ totalled (length counts) own many)
        ∙ ap (after (λ rows. accepted (sums_with rows))) (sym a.1 ∙ from_walk)
