-- The text of a content, from the plan on, as the chain of operations meets it, and its room. Assumes nothing.
use Prim.Native.Nat.{ℕ, ◌-◌, ◌≤◌}
use Rattle.std.specs.Prelude.{Ok, Err}
use mathlib.Core.Path.{◌≡◌, sym, ap, subst, ◌∙◌}
use mathlib.Core.Bool.{true}
use mathlib.Core.List.{List}
use native.Mathlib.Omega.{arith}
use lib.Dec.{eqb}
use lib.IntN.{ℤ}
use lib.ListN.{length, take, replicate, length-map}
use lib.Seq.{take_at}
use Rattle.terms.specs.declared.Refusal.{Refusal}
use Rattle.terms.specs.Refusals.{number, place}
use Rattle.terms.specs.Outcome.{Outcome, accepted, refused, refused_by, after}
use Rattle.terms.specs.Limits.{most_lines, most_strata}
use Rattle.terms.specs.Numbers.{pad_to}
use Rattle.terms.proofs.Outcomes.{never, after_accepted}
use Rattle.pen.specs.Page as Page
use Rattle.start.specs.declared.Chosen.{Chosen}
use Rattle.strata.specs.declared.Row.{Row}
use Rattle.strata.specs.declared.Planned.{Planned}
use Rattle.strata.specs.Strata.{parts_of, no_row, plan_of, PlanPromise}
use Rattle.strata.proofs.Planning.{promised_rows, promised_refusal, parts_many, rows_many, plan_facts}
use Rattle.starts.specs.declared.Starts.{Starts}
use Rattle.starts.specs.Starts.{starts_of, starts_in, starts_with, StartsPromise}
use Rattle.starts.proofs.Laws.{starts_many}
use Rattle.stratified.specs.declared.projection.ProjectionRow.{ProjectionRow}
use Rattle.stratified.specs.declared.projection.ProjectedStrata.{ProjectedStrata}
use Rattle.stratified.specs.Projection.{sums_with, project_strata_of, ProjectStrataPromise}
use Rattle.sheet.specs.Lines.{refused_line}
use Rattle.sheet.specs.Sheet.{text_by}
use Rattle.sheet.proofs.Paging.{as_bounded}
use Rattle.handout.specs.declared.Answers.{Answers}
use Rattle.handout.specs.Lines.{answers_text}
use Rattle.handout.specs.Handout.{answers_with, projected_with, started_with, handout_of, handout_text, longest_for, room_for}
use Rattle.handout.specs.Shows.{Shows}
use Rattle.handout.proofs.Laws.{figured}
use Rattle.handout.proofs.Showing.{shows}

module _ {A : Type 0} where
  -- the entries of a list in an array
  take_padded : (m k : ℕ) (none : A) (l : List A) → length l ≡ k → take k (pad_to m none l) ≡ l
  unfolding pad_to
  take_padded m k none l e = take_at l (replicate (m - length l) none) k e

-- a refusal is the same whatever follows
refused_on : {A B C : Type 0} (f : A → B) (next : A → Outcome C) (o : Outcome A) (why : Refusal) → refused_by why ≡ after (λ a. accepted (f a)) o → refused_by why ≡ after next o
refused_on f next (accepted a) why e = never e
refused_on f next (refused number place) why e = cc

-- the definition from the plan on
from_plan : (draws : ℕ) (counts words ledger : List ℕ) (errors : List ℤ) {o : Outcome (List Row)} → plan_of ledger counts draws (eqb (length errors) (length ledger)) ≡ o →
    handout_of draws counts words ledger errors ≡ after (started_with draws counts words ledger errors) o
unfolding handout_of
from_plan draws counts words ledger errors e = ap (after (started_with draws counts words ledger errors)) e

-- a ledger that is accepted has no more lines and strata than its room was made for
enough_room : {counts ledger : List ℕ} {errors : List ℤ} {rows : List Row} → length ledger ≤ most_lines → Shows counts ledger errors rows →
    longest_for (length ledger) (length counts) ≤ room_for (length ledger) (length counts)
unfolding room_for
enough_room {counts} {ledger} few s = omega (arith, few, s.parted.few)

module _ (draws : ℕ) (counts words ledger : List ℕ) (errors : List ℤ) where
  abbrev text : List ℕ
  text = handout_text draws counts words ledger errors

  abbrev room : ℕ
  room = room_for (length ledger) (length counts)

  -- the text of the outcome, and the room of a refusal's line
  text_of : {o : Outcome Answers} → handout_of draws counts words ledger errors ≡ o → text ≡ text_by (answers_text draws counts ledger errors) o
  unfolding handout_text
  text_of e = ap (text_by (answers_text draws counts ledger errors)) e

  some_room : 136 ≤ room_for (length ledger) (length counts)
  unfolding room_for
  some_room = omega arith

  pub refused_text : (why : Refusal) {o o' : List ℕ} {a a' : ℕ} → handout_of draws counts words ledger errors ≡ refused_by why →
      Page.Wrote o a (refused_line (number why) (place why)) o' a' × (length (refused_line (number why) (place why)) ≤ 50) →
      Page.Wrote o a (handout_text draws counts words ledger errors) o' a' × (length (handout_text draws counts words ledger errors) ≤ room_for (length ledger) (length counts))
  refused_text why e w = as_bounded (text_of e) (omega (arith, some_room)) w

  -- as `print_handout` meets the sheet
  module _ {a : Answers} (e : accepted a ≡ handout_of draws counts words ledger errors) where
    pub answers_shown : Shows counts ledger errors a.plan.rows
    answers_shown =
        let f = figured draws counts words ledger errors a (sym e) in
        subst (λ (b : Answers). Shows counts ledger errors b.plan.rows) (sym f.answers) (shows draws f.rows f.plan (starts_in f.chosen) f.sums f.projected)

    pub answers_printed : {o o' : List ℕ} {k k' : ℕ} →
        Page.Wrote o k (answers_text draws counts ledger errors a) o' k' × (length (answers_text draws counts ledger errors a) ≤ longest_for (length ledger) (length counts)) →
        Page.Wrote o k (handout_text draws counts words ledger errors) o' k' × (length (handout_text draws counts words ledger errors) ≤ room_for (length ledger) (length counts))
    answers_printed w =
        let f = figured draws counts words ledger errors a (sym e) in
        as_bounded (text_of (sym e)) (enough_room (plan_facts ledger counts draws true f.rows f.plan).checks.good.few answers_shown) w

  -- as `answers_of` meets the plan, the starts and the projection
  abbrev planned : Outcome (List Row)
  planned = plan_of ledger counts draws (eqb (length errors) (length ledger))

  pub plan_refused : (why : Refusal) → PlanPromise (plan_of ledger counts draws (eqb (length errors) (length ledger))) (Err why) → refused_by why ≡ handout_of draws counts words ledger errors
  plan_refused why m = sym (from_plan draws counts words ledger errors (promised_refusal planned why m))

  module _ {p : Planned} (m : PlanPromise (plan_of ledger counts draws (eqb (length errors) (length ledger))) (Ok p)) where
    abbrev own : List Row
    own = (promised_rows planned m).0

    known : planned ≡ accepted own
    known = (promised_rows planned m).1.0

    pub planned_few : length counts ≤ most_strata
    planned_few = (plan_facts ledger counts draws (eqb (length errors) (length ledger)) own known).checks.few

    own_many : length own ≡ length counts
    own_many =
        let f = plan_facts ledger counts draws (eqb (length errors) (length ledger)) own known in
        ap length f.shared ∙ rows_many (parts_of counts ledger) _ ∙ parts_many counts ledger

    own_rows : take (length counts) p.rows ≡ own
    own_rows = ap (λ (q : Planned). take (length counts) q.rows) (promised_rows planned m).1.1 ∙ take_padded most_strata (length counts) no_row own own_many

    pub rows_few : length (take (length counts) p.rows) ≤ most_strata
    rows_few = let f = planned_few in omega (arith, ap length own_rows, own_many)

    from_rows : after (projected_with draws counts ledger errors own) (starts_of (take (length counts) p.rows) words) ≡ handout_of draws counts words ledger errors
    from_rows = ap (λ (l : List Row). after (projected_with draws counts ledger errors own) (starts_of l words)) own_rows ∙ sym (from_plan draws counts words ledger errors known)

    pub starts_refused : (why : Refusal) → StartsPromise (starts_of (take (length counts) p.rows) words) (Err why) → refused_by why ≡ handout_of draws counts words ledger errors
    starts_refused why t = refused_on starts_with (projected_with draws counts ledger errors own) (starts_of (take (length counts) p.rows) words) why t ∙ from_rows

    module _ {s : Starts} (t : StartsPromise (starts_of (take (length counts) p.rows) words) (Ok s)) where
      drawn : (all : List Chosen) × (starts_of (take (length counts) p.rows) words ≡ accepted all) × (accepted (starts_with all) ≡ accepted s)
      drawn = after_accepted (λ (all : List Chosen). accepted (starts_with all)) (starts_of (take (length counts) p.rows) words) s (sym t)

      abbrev all : List Chosen
      all = drawn.0

      array : s ≡ starts_with all
      array = let e = drawn.2 in cc

      all_many : length (starts_in all) ≡ length counts
      all_many =
          length-map all (λ (c : Chosen). c.start) ∙ starts_many own words all (ap (λ (l : List Row). starts_of l words) (sym own_rows) ∙ drawn.1) ∙ own_many

      own_starts : take (length counts) s.starts ≡ starts_in all
      own_starts = ap (λ (q : Starts). take (length counts) q.starts) array ∙ take_padded most_strata (length counts) 0 (starts_in all) all_many

      from_starts : projected_with draws counts ledger errors own all ≡ handout_of draws counts words ledger errors
      from_starts = sym (ap (after (projected_with draws counts ledger errors own)) drawn.1) ∙ from_rows

      abbrev projected : Outcome (List ProjectionRow)
      projected = project_strata_of ledger counts draws (take (length counts) s.starts) errors

      from_sums : after (λ sums. accepted (answers_with own all sums)) projected ≡ handout_of draws counts words ledger errors
      from_sums = ap (λ (l : List ℕ). after (λ sums. accepted (answers_with own all sums)) (project_strata_of ledger counts draws l errors)) own_starts ∙ from_starts

      pub sums_refused : (why : Refusal) → ProjectStrataPromise (project_strata_of ledger counts draws (take (length counts) s.starts) errors) (Err why) →
          refused_by why ≡ handout_of draws counts words ledger errors
      sums_refused why q = refused_on sums_with (λ sums. accepted (answers_with own all sums)) projected why q ∙ from_sums

      pub answered : {q : ProjectedStrata} → ProjectStrataPromise (project_strata_of ledger counts draws (take (length counts) s.starts) errors) (Ok q) →
          ◌≡◌ {A = Outcome Answers} (accepted (record { plan = p; chosen = s; sums = q })) (handout_of draws counts words ledger errors)
      answered {q} k =
          let f = after_accepted (λ (sums : List ProjectionRow). accepted (sums_with sums)) projected q (sym k) in
          let sums : List ProjectionRow = f.0 in
          let last : q ≡ sums_with sums = let e = f.2 in cc in
          (λ i. accepted (record { plan = (promised_rows planned m).1.1 i; chosen = array i; sums = last i }))
          ∙ sym (ap (after (λ sums. accepted (answers_with own all sums))) f.1) ∙ from_sums
