-- The sheet and the operations by strata: its figures are theirs, its starts fit, and which refusals it gives. Assumes nothing.
use mathlib.Core.Path.{◌≡◌, refl, sym, ap, subst, ◌∙◌}
use mathlib.Core.Bool.{Bool, true}
use mathlib.Core.List.{List, [], ◌∷◌}
use Prim.Native.Nat.{ℕ, ◌+◌, ◌≤◌, ◌<◌}
use native.Mathlib.Omega.{arith}
use borrow.Author.Tests.{eq-eqb, ne_eqb, lt-ltb, eqb-true, eqb-false}
use lib.Dec.{T, eqb, ltb}
use lib.IntN.{ℤ}
use lib.ListN.{length, get_or, drop, length-map}
use Rattle.terms.specs.Outcome.{Outcome, accepted, refused, after}
use Rattle.terms.specs.Limits.{most_lines, most_strata}
use Rattle.terms.specs.Numbers.{sum}
use Rattle.terms.proofs.Outcomes.{after_accepted, Gives, all_among, gives_after, gives_among}
use Rattle.terms.proofs.Tests.{by_test}
use Rattle.ledger.specs.Ledger.{ledger_with, ledger_of}
use Rattle.ledger.proofs.Laws.{ledger_numbers, value_numbers, lent_gives, values_give}
use Rattle.start.specs.declared.Chosen.{Chosen}
use Rattle.shares.specs.Shares.{with_value}
use Rattle.strata.specs.declared.Row.{Row}
use Rattle.strata.specs.Strata.{parts_of, books_of, no_row, plan_from, checked_of, plan_of}
use Rattle.strata.specs.Starts.{agree, rows_started, started_of}
use Rattle.strata.proofs.Planning.{parts_many, rows_many, plan_facts}
use Rattle.starts.specs.Starts.{starts_of, starts_in}
use Rattle.starts.proofs.Laws.{starts_many, starts_fit, starts_give}
use Rattle.project.specs.Project.{projection_at}
use Rattle.project.proofs.Laws.{projection_gives}
use Rattle.project.proofs.Checking.{line_numbers}
use Rattle.stratified.specs.declared.projection.ProjectionRow.{ProjectionRow}
use Rattle.stratified.specs.Projection.{projected_from, project_strata_of}
use Rattle.handout.specs.declared.Answers.{Answers}
use Rattle.sheet.specs.Lines.{refused_line}
use Rattle.sheet.specs.Sheet.{text_by}
use Rattle.handout.specs.Lines.{answers_text}
use Rattle.handout.specs.Handout.{answers_with, projected_with, started_with, handout_of, handout_text}

-- a sheet that is given: the rows of the plan, the starts that follow from its words, and the projection by strata at these starts
pub record Figured (draws : ℕ) (counts words ledger : List ℕ) (errors : List ℤ) (a : Answers) : Type 0 where
  pub rows : List Row
  pub chosen : List Chosen
  pub sums : List ProjectionRow
  pub same : length errors ≡ length ledger
  pub plan : plan_of ledger counts draws true ≡ accepted rows
  pub started : starts_of rows words ≡ accepted chosen
  pub projected : project_strata_of ledger counts draws (starts_in chosen) errors ≡ accepted sums
  pub answers : a ≡ answers_with rows chosen sums

pub figured : (draws : ℕ) (counts words ledger : List ℕ) (errors : List ℤ) (a : Answers) → handout_of draws counts words ledger errors ≡ accepted a → Figured draws counts words ledger errors a
unfolding handout_of
figured draws counts words ledger errors a e =
    let same : Bool = eqb (length errors) (length ledger) in
    let p = after_accepted (started_with draws counts words ledger errors) (plan_of ledger counts draws same) a e in
    let s = after_accepted (projected_with draws counts ledger errors p.0) (starts_of p.0 words) a p.2 in
    let q = after_accepted (λ (sums : List ProjectionRow). accepted (answers_with p.0 s.0 sums)) (project_strata_of ledger counts draws (starts_in s.0) errors) a s.2 in
    let lent : same ≡ true = (plan_facts ledger counts draws same p.0 p.1).checks.lent in
    let whole : answers_with p.0 s.0 q.0 ≡ a = let w = q.2 in cc in
    record {
      rows = p.0;
      chosen = s.0;
      sums = q.0;
      same = eqb-true _ _ lent;
      plan = ap (plan_of ledger counts draws) (sym lent) ∙ p.1;
      started = s.1;
      projected = q.1;
      answers = sym whole;
    }

-- the starts chosen are accepted by the draw and by the projection by strata: 11 and 13 never come from them
module _ (draws : ℕ) (counts words ledger : List ℕ) (rows : List Row) (chosen : List Chosen) where
  pub starts_accepted : plan_of ledger counts draws true ≡ accepted rows → starts_of rows words ≡ accepted chosen → started_of ledger counts draws (starts_in chosen) (length ledger) ≡ accepted rows
  unfolding started_of
  starts_accepted plan started =
      let many : length (starts_in chosen) ≡ length counts =
      length-map chosen (λ (c : Chosen). c.start) ∙ starts_many rows words chosen started
      ∙ ap length (plan_facts ledger counts draws true rows plan).shared ∙ rows_many (parts_of counts ledger) _ ∙ parts_many counts ledger in
      let lent : agree (length ledger) (length ledger) (length (starts_in chosen)) (length counts) ≡ true = simp (eq-eqb (length ledger) (length ledger) refl, eq-eqb _ _ many) in
      ap (λ (b : Bool). after (rows_started (starts_in chosen)) (plan_of ledger counts draws b)) lent ∙ ap (after (rows_started (starts_in chosen))) plan
      ∙ ap (after (λ strata. accepted rows)) (starts_fit rows words chosen started)

-- the refusals of the sheet
abbrev pub handout_numbers : List ℕ
handout_numbers = 22 ∷ 30 ∷ 2 ∷ 13 ∷ 3 ∷ 4 ∷ 5 ∷ 8 ∷ 23 ∷ 12 ∷ 14 ∷ 15 ∷ []

checks_give : (ledger counts : List ℕ) (same : Bool) → Gives handout_numbers (checked_of ledger counts same)
unfolding checked_of
checks_give ledger counts same =
    by_test (Gives handout_numbers) (eqb (length counts) 0) (λ p. tt)
    (λ p. by_test (Gives handout_numbers) (ltb most_strata (length counts)) (λ q. tt)
    (λ q. by_test (Gives handout_numbers) (eqb (sum counts) (length ledger)) (λ r. gives_among ledger_numbers handout_numbers tt (ledger_with ledger same) (lent_gives ledger same)) (λ r. tt)))

-- 8 and 23
plan_from_gives : (parts : List (List ℕ)) (n : ℕ) → Gives (8 ∷ 23 ∷ []) (plan_from parts n)
unfolding plan_from
plan_from_gives parts n = by_test (Gives (8 ∷ 23 ∷ [])) (eqb n 0) (λ p. tt) (λ p. by_test (Gives (8 ∷ 23 ∷ [])) (ltb n (with_value (books_of parts))) (λ q. tt) (λ q. tt))

plan_gives : (ledger counts : List ℕ) (n : ℕ) (same : Bool) → Gives handout_numbers (plan_of ledger counts n same)
unfolding plan_of
plan_gives ledger counts n same = gives_after handout_numbers _ (checked_of ledger counts same) (checks_give ledger counts same)
    (λ total. gives_among (8 ∷ 23 ∷ []) handout_numbers tt (plan_from (parts_of counts ledger) n) (plan_from_gives (parts_of counts ledger) n))

projected_gives : (first : ℕ) (parts : List (List ℕ)) (rows : List Row) (starts : List ℕ) (errors : List (List ℤ)) → Gives line_numbers (projected_from first parts rows starts errors)
unfolding projected_from
projected_gives first [] rows starts errors = tt
projected_gives first (part ∷ parts) rows starts errors =
    gives_after line_numbers _ (projection_at first (get_or rows 0 no_row).figures.interval (get_or starts 0 0) part (get_or errors 0 []))
    (projection_gives first (get_or rows 0 no_row).figures.interval (get_or starts 0 0) part (get_or errors 0 []))
    (λ sums. gives_after line_numbers _ (projected_from (first + length part) parts (drop 1 rows) (drop 1 starts) (drop 1 errors)) (projected_gives (first + length part) parts (drop 1 rows) (drop 1 starts) (drop 1 errors)) (λ others. tt))

-- at the starts chosen the projection gives 14 and 15 alone
own_gives : (draws : ℕ) (counts words ledger : List ℕ) (errors : List ℤ) (rows : List Row) (chosen : List Chosen) → length errors ≡ length ledger → plan_of ledger counts draws true ≡ accepted rows →
    starts_of rows words ≡ accepted chosen → Gives line_numbers (project_strata_of ledger counts draws (starts_in chosen) errors)
unfolding project_strata_of
own_gives draws counts words ledger errors rows chosen same plan started =
    let accepted_starts : started_of ledger counts draws (starts_in chosen) (length errors) ≡ accepted rows =
    ap (started_of ledger counts draws (starts_in chosen)) same ∙ starts_accepted draws counts words ledger rows chosen plan started in
    subst (λ (o : Outcome (List Row)). Gives line_numbers (after (λ own. projected_from 0 (parts_of counts ledger) own (starts_in chosen) (parts_of counts errors)) o)) (sym accepted_starts)
    (projected_gives 0 (parts_of counts ledger) rows (starts_in chosen) (parts_of counts errors))

-- what follows from an outcome's value may use that it is the value
gives_from : {A B : Type 0} (numbers : List ℕ) (next : A → Outcome B) (o : Outcome A) → Gives numbers o → ((a : A) → o ≡ accepted a → Gives numbers (next a)) → Gives numbers (after next o)
gives_from numbers next (accepted a) g f = f a refl
gives_from numbers next (refused n p) g f = g

-- the refusals of the plan, 12, and those of the lines
module _ (numbers : List ℕ) (twelve : T (all_among (12 ∷ []) numbers)) (lines : T (all_among line_numbers numbers)) where
  handout_among : (draws : ℕ) (counts words ledger : List ℕ) (errors : List ℤ) → Gives numbers (plan_of ledger counts draws (eqb (length errors) (length ledger))) →
      Gives numbers (handout_of draws counts words ledger errors)
  unfolding handout_of
  handout_among draws counts words ledger errors given =
      let same : Bool = eqb (length errors) (length ledger) in
      gives_from numbers (started_with draws counts words ledger errors) (plan_of ledger counts draws same) given
      (λ rows plan. let lent : same ≡ true = (plan_facts ledger counts draws same rows plan).checks.lent in
      let as_long : length errors ≡ length ledger = eqb-true _ _ lent in
      let own : plan_of ledger counts draws true ≡ accepted rows = ap (plan_of ledger counts draws) (sym lent) ∙ plan in
      gives_from numbers (projected_with draws counts ledger errors rows) (starts_of rows words) (gives_among (12 ∷ []) numbers twelve (starts_of rows words) (starts_give rows words))
      (λ chosen started. gives_after numbers _ (project_strata_of ledger counts draws (starts_in chosen) errors)
      (gives_among line_numbers numbers lines (project_strata_of ledger counts draws (starts_in chosen) errors) (own_gives draws counts words ledger errors rows chosen as_long own started)) (λ sums. tt)))

pub handout_gives : (draws : ℕ) (counts words ledger : List ℕ) (errors : List ℤ) → Gives handout_numbers (handout_of draws counts words ledger errors)
handout_gives draws counts words ledger errors = handout_among handout_numbers tt tt draws counts words ledger errors (plan_gives ledger counts draws (eqb (length errors) (length ledger)))

-- where the counts add to the lines, each line has its error, and the lines are not too many, 30, 2 and 13 are not among them
abbrev pub parted_numbers : List ℕ
parted_numbers = 22 ∷ 3 ∷ 4 ∷ 5 ∷ 8 ∷ 23 ∷ 12 ∷ 14 ∷ 15 ∷ []

pub parted_gives : (draws : ℕ) (counts words ledger : List ℕ) (errors : List ℤ) → length ledger ≤ most_lines → length errors ≡ length ledger → sum counts ≡ length ledger →
    Gives parted_numbers (handout_of draws counts words ledger errors)
unfolding plan_of checked_of ledger_of
parted_gives draws counts words ledger errors few same add =
    handout_among parted_numbers tt tt draws counts words ledger errors
    (gives_after parted_numbers _ (checked_of ledger counts (eqb (length errors) (length ledger)))
    (by_test (Gives parted_numbers) (eqb (length counts) 0) (λ p. tt)
    (λ p. by_test (Gives parted_numbers) (ltb most_strata (length counts)) (λ q. tt)
    (λ q. by_test (Gives parted_numbers) (eqb (sum counts) (length ledger)) (λ r. gives_among value_numbers parted_numbers tt (ledger_of ledger (length errors)) (values_give ledger (length errors) few same))
    (λ r. absurd (eqb-false (sum counts) (length ledger) r add)))))
    (λ total. gives_among (8 ∷ 23 ∷ []) parted_numbers tt (plan_from (parts_of counts ledger) draws) (plan_from_gives (parts_of counts ledger) draws)))

too_many_strata : (ledger counts : List ℕ) (same : Bool) → most_strata < length counts → checked_of ledger counts same ≡ refused 22 0
unfolding checked_of
too_many_strata ledger counts same many =
    let some : length counts ≡ 0 → ⊥ = λ none. omega (arith, none, many) in
    simp (ne_eqb (length counts) 0 some, lt-ltb most_strata (length counts) many)

-- more strata than a ledger may have are refused, whatever they hold
pub too_many : (draws : ℕ) (counts words ledger : List ℕ) (errors : List ℤ) → most_strata < length counts → handout_text draws counts words ledger errors ≡ refused_line 22 0
unfolding handout_text handout_of plan_of
too_many draws counts words ledger errors many =
    let same : Bool = eqb (length errors) (length ledger) in
    ap (λ (o : Outcome ℕ). text_by (answers_text draws counts ledger errors) (after (started_with draws counts words ledger errors) (after (λ total. plan_from (parts_of counts ledger) draws) o)))
    (too_many_strata ledger counts same many)
