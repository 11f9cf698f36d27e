-- What the plan, the starts and the projection have shown of each stratum where they accept. Assumes nothing.
use Prim.Native.Nat.{ℕ, suc, ◌+◌, ◌≤◌}
use Rattle.std.specs.Prelude.{Ok}
use mathlib.Core.Path.{◌≡◌, sym, ap, subst, ◌∙◌}
use mathlib.Core.Bool.{true}
use mathlib.Core.List.{List, [], ◌∷◌}
use native.Mathlib.Numerals.{add-one}
use native.Mathlib.Omega.{arith}
use lib.IntN.{ℤ}
use lib.ListN.{length, get_or, take, drop, length-append, length-take, take-append-drop}
use lib.Seq.{drop-drop}
use Rattle.terms.specs.Outcome.{accepted, after}
use Rattle.terms.specs.Limits.{most_lines, most_total, most_strata}
use Rattle.terms.specs.Numbers.{sum, pad_to}
use Rattle.terms.proofs.Outcomes.{after_accepted}
use Rattle.terms.proofs.Sums.{sum_append}
use Rattle.signed.specs.declared.Part.TheVariants.{Size}
use Rattle.project.specs.declared.Projection.{Projection}
use Rattle.project.specs.Project.{projection_at}
use Rattle.project.proofs.Laws.{projected_facts}
use Rattle.strata.specs.declared.Row.{Row}
use Rattle.strata.specs.Strata.{parts_of, no_row, plan_with, plan_of, PlanPromise}
use Rattle.strata.specs.Starts.{started_of}
use Rattle.strata.proofs.Pieces.{here_at}
use Rattle.strata.proofs.Padded.{padded_at}
use Rattle.strata.proofs.Starting.{started_facts}
use Rattle.stratified.specs.declared.projection.ProjectionRow.{ProjectionRow}
use Rattle.stratified.specs.Marks.{Underway}
use Rattle.stratified.specs.Projection.{projection_row, projected_from, project_strata_of}
use Rattle.stratified.proofs.Underway.{underway}
use Rattle.steps.specs.Steps.{Shown}
use Rattle.handout.specs.Shows.{EachShown, Shows}

-- a stratum's projection and those after it, where all are accepted
record Step (first : ℕ) (part : List ℕ) (later : List (List ℕ)) (rows : List Row) (starts : List ℕ) (own : List ℤ) (errors : List (List ℤ)) : Type 0 where
  sums : Projection
  others : List ProjectionRow
  here : projection_at first (get_or rows 0 no_row).figures.interval (get_or starts 0 0) part own ≡ accepted sums
  rest : projected_from (first + length part) later (drop 1 rows) (drop 1 starts) errors ≡ accepted others

step : (first : ℕ) (part : List ℕ) (later : List (List ℕ)) (rows : List Row) (starts : List ℕ) (own : List ℤ) (errors : List (List ℤ)) (all : List ProjectionRow) →
    projected_from first (part ∷ later) rows starts (own ∷ errors) ≡ accepted all → Step first part later rows starts own errors
unfolding projected_from
step first part later rows starts own errors all e =
    let a = after_accepted (λ (sums : Projection). after (λ others. accepted (projection_row (get_or rows 0 no_row) sums ∷ others)) (projected_from (first + length part) later (drop 1 rows) (drop 1 starts) errors))
    (projection_at first (get_or rows 0 no_row).figures.interval (get_or starts 0 0) part own) all e in
    let b = after_accepted (λ (others : List ProjectionRow). accepted (projection_row (get_or rows 0 no_row) a.0 ∷ others)) (projected_from (first + length part) later (drop 1 rows) (drop 1 starts) errors) all a.2 in
    record { sums = a.0; others = b.0; here = a.1; rest = b.1 }

-- stratum by stratum: `rows` and `own` have the same entries
module _ (rows own : List Row) (starts : List ℕ) (alike : (k : ℕ) → get_or rows k no_row ≡ get_or own k no_row) (narrow : (k : ℕ) → (get_or rows k no_row).figures.interval ≤ most_total)
    (early : (k : ℕ) → get_or starts k 0 ≤ (get_or rows k no_row).figures.interval) where
  each_shown : (counts ledger : List ℕ) (errors : List ℤ) (h first : ℕ) (all : List ProjectionRow) → first + length ledger ≤ most_lines → sum ledger ≤ most_total → length errors ≡ length ledger →
      projected_from first (parts_of counts ledger) (drop h own) (drop h starts) (parts_of counts errors) ≡ accepted all → EachShown h first (parts_of counts ledger) rows (parts_of counts errors)
  unfolding parts_of
  each_shown [] ledger errors h first all few most same e = tt
  each_shown (count ∷ counts) ledger errors h first all few most same e =
      let part = take count ledger in
      let s = step first part (parts_of counts (drop count ledger)) (drop h own) (drop h starts) (take count errors) (parts_of counts (drop count errors)) all e in
      let lines : length part + length (drop count ledger) ≡ length ledger = sym (length-append part (drop count ledger)) ∙ ap length (take-append-drop count ledger) in
      let more : length (take count errors) + length (drop count errors) ≡ length errors = sym (length-append (take count errors) (drop count errors)) ∙ ap length (take-append-drop count errors) in
      let total : sum part + sum (drop count ledger) ≡ sum ledger = sym (sum_append part (drop count ledger)) ∙ ap sum (take-append-drop count ledger) in
      let as_long : length (take count errors) ≡ length part = omega (arith, length-take count errors, length-take count ledger) in
      let here : projection_at first (get_or rows h no_row).figures.interval (get_or starts h 0) part (take count errors) ≡ accepted s.sums =
      (λ i. projection_at first ((alike h ∙ sym (here_at h own no_row)) i).figures.interval (sym (here_at h starts 0) i) part (take count errors)) ∙ s.here in
      let facts = projected_facts first (get_or rows h no_row).figures.interval (get_or starts h 0) part (take count errors) s.sums (early h) here in
      let on : (l : List Row) → drop 1 (drop h l) ≡ drop (suc h) l = λ l. drop-drop 1 h l ∙ ap (λ (k : ℕ). drop k l) (add-one h) in
      let on_starts : drop 1 (drop h starts) ≡ drop (suc h) starts = drop-drop 1 h starts ∙ ap (λ (k : ℕ). drop k starts) (add-one h) in
      let rest : projected_from (first + length part) (parts_of counts (drop count ledger)) (drop (suc h) own) (drop (suc h) starts) (parts_of counts (drop count errors)) ≡ accepted s.others =
      (λ i. projected_from (first + length part) (parts_of counts (drop count ledger)) (sym (on own) i) (sym on_starts i) (parts_of counts (drop count errors))) ∙ s.rest in
      let shown : Shown first (get_or rows h no_row).figures.interval part (take count errors) = record {
        narrow = narrow h;
        few = omega arith;
        summed = omega arith;
        same = as_long;
        within = (facts.facts Size).within;
      } in
      (shown, each_shown counts (drop count ledger) (drop count errors) (suc h) (first + length part) s.others (omega arith) (omega arith) (omega arith) rest)

-- of the whole ledger, from the plan's rows in their array and a projection that is accepted
pub shows : (draws : ℕ) {counts ledger : List ℕ} {errors : List ℤ} (own : List Row) → plan_of ledger counts draws true ≡ accepted own → (starts : List ℕ) (all : List ProjectionRow) →
    project_strata_of ledger counts draws starts errors ≡ accepted all → Shows counts ledger errors (pad_to most_strata no_row own)
unfolding project_strata_of
shows draws {counts} {ledger} {errors} own planned starts all e =
    let a = after_accepted (λ (rows : List Row). projected_from 0 (parts_of counts ledger) rows starts (parts_of counts errors)) (started_of ledger counts draws starts (length errors)) all e in
    let f = started_facts ledger counts draws starts (length errors) a.0 a.1 in
    let one : accepted own ≡ accepted a.0 = sym planned ∙ f.plan in
    let same : a.0 ≡ own = cc in
    let rows : List Row = pad_to most_strata no_row own in
    let array : pad_to most_strata no_row a.0 ≡ rows = ap (pad_to most_strata no_row) same in
    let promise : PlanPromise (started_of ledger counts draws starts (length errors)) (Ok (plan_with a.0)) = sym (ap (after (λ rows. accepted (plan_with rows))) a.1) in
    let u : Underway ledger counts rows starts (length errors) =
    subst (λ (l : List Row). Underway ledger counts l starts (length errors)) array (underway ledger counts draws starts (length errors) promise) in
    let alike : (k : ℕ) → get_or rows k no_row ≡ get_or a.0 k no_row = λ k. ap (λ (l : List Row). get_or l k no_row) (sym array) ∙ padded_at no_row most_strata a.0 k in
    record {
      parted = u.parted;
      same = f.same;
      each = each_shown rows a.0 starts alike u.narrow u.early counts ledger errors 0 0 all (let g = u.few in omega arith) u.parted.most f.same a.2;
    }
