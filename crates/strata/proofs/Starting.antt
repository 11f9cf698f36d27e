-- The starts of the strata, as the code meets them, and what is known where they are accepted. Assumes nothing.
use mathlib.Core.Path.{◌≡◌, refl, sym, ap, subst, ◌∙◌}
use Rattle.std.specs.Prelude.{Ok, Err}
use mathlib.Core.Bool.{Bool, true, false, not}
use mathlib.Core.List.{List, [], ◌∷◌}
use mathlib.Core.Logic.{⊎_elim}
use Prim.Native.Nat.{ℕ, zero, suc, ◌+◌, ◌≤◌, ◌<◌}
use native.Mathlib.Numerals.{add-one}
use native.Mathlib.Omega.{arith}
use borrow.Author.Tests.{eqb-true, not-true, not-false}
use lib.Dec.{T, eqb}
use lib.ListN.{length, get_or, drop, drop_of_length-le, get_or-eq_default}
use lib.Seq.{drop-cons, drop-drop}
use Rattle.terms.specs.declared.Refusal.{Refusal}
use Rattle.terms.specs.Outcome.{Outcome, accepted, refused, refused_by, after}
use Rattle.terms.specs.Limits.{most_strata}
use Rattle.terms.specs.Numbers.{pick, pad_to}
use Rattle.terms.proofs.Outcomes.{never, after_accepted}
use Rattle.terms.proofs.Tests.{by_test, le_or_lt}
use Rattle.split.specs.Start.{start_fits}
use Rattle.split.proofs.Start.{fits_early}
use Rattle.strata.specs.declared.Row.{Row}
use Rattle.strata.specs.declared.Planned.{Planned}
use Rattle.strata.specs.Strata.{no_row, plan_of, plan_with, PlanPromise}
use Rattle.strata.specs.Starts.{agree, starts_from, rows_started, started_of}
use Rattle.strata.proofs.Pieces.{here_at}
use Rattle.strata.proofs.Padded.{padded_at, later_at, Alike, alike_later}
use Rattle.strata.proofs.Planning.{promised_rows, PlanFacts, plan_facts}

no_true : ◌≡◌ {A = Bool} false true → ⊥
no_true e = subst T (sym e) tt

pub agree_facts : (beside lines starts strata : ℕ) → agree beside lines starts strata ≡ true → (beside ≡ lines) × (starts ≡ strata)
agree_facts beside lines starts strata =
    by_test (λ b. b ≡ true → (beside ≡ lines) × (starts ≡ strata)) (eqb beside lines) (λ p e. (eqb-true _ _ p, eqb-true _ _ e)) (λ p e. absurd (no_true e))

-- `starts_fit`: each start before h fits
pub record Fitting (rows : List Row) (starts : List ℕ) (h : ℕ) : Type 0 where
  pub inside : h ≤ length starts
  pub few : length starts ≤ most_strata
  pub rest : starts_from h (drop h rows) (drop h starts) ≡ starts_from 0 rows starts

-- the definition, as the loop meets it
starts_on : (rows : List Row) (starts : List ℕ) (h : ℕ) → h < length starts →
    starts_from h (drop h rows) (drop h starts)
    ≡ pick (start_fits (get_or starts h 0) (get_or rows h no_row).figures.interval) (starts_from (h + 1) (drop (h + 1) rows) (drop (h + 1) starts)) (refused 11 h)
unfolding starts_from
starts_on rows starts h inside =
    rw (drop-cons starts h 0 inside, add-one)
    (λ i. pick (start_fits (get_or starts h 0) (here_at h rows no_row i).figures.interval) (starts_from (suc h) ((drop-drop 1 h rows ∙ ap (λ (k : ℕ). drop k rows) (add-one h)) i) (drop (suc h) starts)) (refused 11 h))

module _ {rows : List Row} {starts : List ℕ} {h : ℕ} (at : Fitting rows starts h) where
  module _ (inside : h < length starts) {fits : Bool} (is : fits ≡ start_fits (get_or starts h 0) (get_or rows h no_row).figures.interval) where
    pub fitting_not : not fits ≡ true → refused 11 h ≡ starts_from 0 rows starts
    fitting_not e = sym (starts_on rows starts h inside ∙ ap (λ (b : Bool). pick b (starts_from (h + 1) (drop (h + 1) rows) (drop (h + 1) starts)) (refused 11 h)) (sym is ∙ not-true fits e)) ∙ at.rest

    pub fitting_next : not fits ≡ false → Fitting rows starts (h + 1)
    fitting_next e =
        record {
          inside = omega arith;
          few = at.few;
          rest = sym (starts_on rows starts h inside ∙ ap (λ (b : Bool). pick b (starts_from (h + 1) (drop (h + 1) rows) (drop (h + 1) starts)) (refused 11 h)) (sym is ∙ not-false fits e)) ∙ at.rest;
        }

  pub fitting_end : length starts ≤ h → accepted (length starts) ≡ starts_from 0 rows starts
  unfolding starts_from
  fitting_end end =
      let i = at.inside in
      let all : length starts ≡ h = omega arith in
      ap accepted all ∙ sym (ap (starts_from h (drop h rows)) (drop_of_length-le starts end)) ∙ at.rest

-- the starts read the rows by their entries
starts_alike : (h : ℕ) (rows others : List Row) (starts : List ℕ) → Alike no_row rows others → starts_from h rows starts ≡ starts_from h others starts
unfolding starts_from
starts_alike h rows others [] same = refl
starts_alike h rows others (start ∷ later) same =
    λ i. pick (start_fits start (same 0 i).figures.interval) (starts_alike (suc h) (drop 1 rows) (drop 1 others) later (alike_later no_row rows others same) i) (refused 11 h)

-- from the plan to the plan for these starts, as `started` meets it
module _ (ledger counts : List ℕ) (n : ℕ) (starts : List ℕ) (beside : ℕ) {same : Bool} (is : same ≡ agree beside (length ledger) (length starts) (length counts))
    {p : Planned} (m : PlanPromise (plan_of ledger counts n same) (Ok p)) where
  abbrev rows : List Row
  rows = (promised_rows (plan_of ledger counts n same) m).0

  known : plan_of ledger counts n same ≡ accepted rows
  known = (promised_rows (plan_of ledger counts n same) m).1.0

  -- the starts are as many as the strata, so they are few
  pub starts_few : length starts ≤ most_strata
  starts_few =
      let c = (plan_facts ledger counts n same rows known).checks in
      omega (arith, c.few, (agree_facts beside (length ledger) (length starts) (length counts) (sym is ∙ c.lent)).1)

  module _ {o : Outcome ℕ} (e : o ≡ starts_from 0 p.rows starts) where
    -- what the starts make of the rows, which stand in an array
    from_starts : started_of ledger counts n starts beside ≡ after (λ strata. accepted rows) o
    unfolding started_of
    from_starts =
        let array : p.rows ≡ pad_to most_strata no_row rows = ap (λ (q : Planned). q.rows) (promised_rows (plan_of ledger counts n same) m).1.1 in
        let own : starts_from 0 p.rows starts ≡ starts_from 0 rows starts =
        ap (λ (l : List Row). starts_from 0 l starts) array ∙ starts_alike 0 (pad_to most_strata no_row rows) rows starts (padded_at no_row most_strata rows) in
        ap (λ (b : Bool). after (rows_started starts) (plan_of ledger counts n b)) (sym is) ∙ ap (after (rows_started starts)) known ∙ ap (after (λ strata. accepted rows)) (sym (e ∙ own))

  pub start_refused : (why : Refusal) → refused_by why ≡ starts_from 0 p.rows starts → PlanPromise (started_of ledger counts n starts beside) (Err why)
  start_refused why e = sym (ap (after (λ rows. accepted (plan_with rows))) (from_starts e))

  pub starts_good : {all : ℕ} → accepted all ≡ starts_from 0 p.rows starts → PlanPromise (started_of ledger counts n starts beside) (Ok p)
  starts_good e = ap accepted (promised_rows (plan_of ledger counts n same) m).1.1 ∙ sym (ap (after (λ rows. accepted (plan_with rows))) (from_starts e))

-- each start fits its stratum's interval
starts_fit : (h : ℕ) (rows : List Row) (starts : List ℕ) (strata : ℕ) → starts_from h rows starts ≡ accepted strata → (i : ℕ) → i < length starts → start_fits (get_or starts i 0) (get_or rows i no_row).figures.interval ≡ true
unfolding starts_from
starts_fit h rows [] strata e = λ i inside. absurd (omega arith)
starts_fit h rows (start ∷ later) strata e =
    by_test (λ o. o ≡ accepted strata → (i : ℕ) → i < suc (length later) → start_fits (get_or (start ∷ later) i 0) (get_or rows i no_row).figures.interval ≡ true)
    (start_fits start (get_or rows 0 no_row).figures.interval) (λ fits f. go fits (starts_fit (suc h) (drop 1 rows) later strata f)) (λ fits f. never f) e
  where
    go : start_fits start (get_or rows 0 no_row).figures.interval ≡ true →
        ((i : ℕ) → i < length later → start_fits (get_or later i 0) (get_or (drop 1 rows) i no_row).figures.interval ≡ true) →
        (i : ℕ) → i < suc (length later) → start_fits (get_or (start ∷ later) i 0) (get_or rows i no_row).figures.interval ≡ true
    go fits more zero inside = fits
    go fits more (suc i) inside = subst (λ (r : Row). start_fits (get_or later i 0) r.figures.interval ≡ true) (later_at no_row rows i) (more i (omega arith))

-- so it is at most that interval; past the last stratum it is 0
starts_early : (rows : List Row) (starts : List ℕ) → ((i : ℕ) → i < length starts → start_fits (get_or starts i 0) (get_or rows i no_row).figures.interval ≡ true) →
    (i : ℕ) → get_or starts i 0 ≤ (get_or rows i no_row).figures.interval
starts_early rows starts fits i =
    ⊎_elim (λ (p : length starts ≤ i). omega (arith, get_or-eq_default starts 0 p))
    (λ (p : i < length starts). fits_early (get_or rows i no_row).figures.interval (get_or starts i 0) (fits i p)) (le_or_lt (length starts) i)

-- what is known where the starts are accepted
pub record StartedFacts (ledger counts : List ℕ) (n : ℕ) (starts : List ℕ) (beside : ℕ) (rows : List Row) : Type 0 where
  pub plan : plan_of ledger counts n true ≡ accepted rows
  pub facts : PlanFacts ledger counts n true rows
  pub same : beside ≡ length ledger
  pub as_many : length starts ≡ length counts
  pub fits : (h : ℕ) → h < length starts → start_fits (get_or starts h 0) (get_or rows h no_row).figures.interval ≡ true
  pub early : (h : ℕ) → get_or starts h 0 ≤ (get_or rows h no_row).figures.interval

pub started_facts : (ledger counts : List ℕ) (n : ℕ) (starts : List ℕ) (beside : ℕ) (rows : List Row) → started_of ledger counts n starts beside ≡ accepted rows → StartedFacts ledger counts n starts beside rows
unfolding started_of
started_facts ledger counts n starts beside rows e =
    let same : Bool = agree beside (length ledger) (length starts) (length counts) in
    let a = after_accepted (rows_started starts) (plan_of ledger counts n same) rows e in
    let b = after_accepted (λ (strata : ℕ). accepted a.0) (starts_from 0 a.0 starts) rows a.2 in
    let own : a.0 ≡ rows = let w = b.2 in cc in
    let lent : same ≡ true = (plan_facts ledger counts n same a.0 a.1).checks.lent in
    let plan : plan_of ledger counts n true ≡ accepted rows = ap (plan_of ledger counts n) (sym lent) ∙ a.1 ∙ ap accepted own in
    let lengths = agree_facts beside (length ledger) (length starts) (length counts) lent in
    let fits : (h : ℕ) → h < length starts → start_fits (get_or starts h 0) (get_or rows h no_row).figures.interval ≡ true =
    subst (λ (l : List Row). (h : ℕ) → h < length starts → start_fits (get_or starts h 0) (get_or l h no_row).figures.interval ≡ true) own (starts_fit 0 a.0 starts b.0 b.1) in
    record {
      plan = plan;
      facts = plan_facts ledger counts n true rows plan;
      same = lengths.0;
      as_many = lengths.1;
      fits = fits;
      early = starts_early rows starts fits;
    }
