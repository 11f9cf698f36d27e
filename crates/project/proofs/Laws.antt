-- The projection from its definitions, what is known of an accepted one, which refusals it gives, and that its lines are marked as the draw
-- marks them. Assumes nothing.
use mathlib.Core.Path.{◌≡◌, refl, sym, ap, ◌∙◌}
use mathlib.Core.Bool.{Bool, true, false}
use mathlib.Core.List.{List, [], ◌∷◌, ◌++◌, map}
use Prim.Native.Nat.{ℕ, ◌+◌, ◌≤◌}
use native.Mathlib.Omega.{arith}
use lib.IntN.{ℤ, pos}
use lib.ListN.{length, get_or, drop}
use Rattle.terms.specs.Outcome.{Outcome, accepted, refused, after}
use Rattle.terms.specs.Numbers.{pick, sum}
use Rattle.terms.proofs.Outcomes.{after_accepted, Gives, gives_after, gives_among, refused_first}
use Rattle.split.specs.declared.Figures.{Figures}
use Rattle.split.specs.Start.{figures_for}
use Rattle.split.proofs.Start.{StartFacts, start_facts, figures_numbers, figures_give}
use Rattle.signed.specs.declared.Part.{Part}
use Rattle.signed.specs.declared.Part.TheVariants.{Overstated, Understated, Size}
use Rattle.signed.specs.Parts.{parts}
use Rattle.signed.proofs.Laws.{part_most, part_is_size, parts_at}
use Rattle.draw.specs.Points.{covers}
use Rattle.draw.specs.Row.{full, cents, marks_from, draw_marks}
use Rattle.draw.proofs.Laws.{draw_marks_lem, row_figures}
use Rattle.project.specs.declared.State.{State}
use Rattle.project.specs.declared.State.TheVariants.{NotDrawn, Drawn, Full}
use Rattle.project.specs.declared.Line.{Line}
use Rattle.project.specs.declared.Projection.{Projection}
use Rattle.project.specs.Lines.{amount, state_by, lines_from, lines_of}
use Rattle.project.specs.Project.{checked_from, checked_lines, lines_with, both_kinds, projection_at, projected_by, project_of, Ready}
use Rattle.project.proofs.Lines.{lines_walked}
use Rattle.project.proofs.Checking.{checked_same, checked_anywhere, line_numbers, checked_gives}
use Rattle.project.proofs.Less.{less_pass}
use Rattle.project.proofs.Facts.{LinesFacts, lines_facts}

-- at an interval and a start
module _ (item J start : ℕ) (ledger errors : List ℕ) where
  pub checked_of : checked_lines item J start ledger errors ≡ checked_from item (lines_of J start ledger errors)
  unfolding checked_lines
  checked_of = refl

  -- lines that pass are the lines that were checked
  pub checked_lines_lem : (good : List Line) → checked_lines item J start ledger errors ≡ accepted good → checked_lines item J start ledger errors ≡ accepted (lines_of J start ledger errors)
  unfolding checked_lines
  checked_lines_lem good e = checked_same item (lines_of J start ledger errors) good e

  pub checked_give : Gives line_numbers (checked_lines item J start ledger errors)
  unfolding checked_lines
  checked_give = checked_gives item (lines_of J start ledger errors)

-- smaller errors pass where larger ones do
pub less_checked : (item J start : ℕ) (ledger es fs : List ℕ) → ((i : ℕ) → get_or es i 0 ≤ get_or fs i 0) → (good : List Line) → checked_lines item J start ledger fs ≡ accepted good →
    checked_lines item J start ledger es ≡ accepted (lines_of J start ledger es)
unfolding checked_lines
less_checked item J start ledger es fs less good e =
    let walked : (errors : List ℕ) → lines_of J start ledger errors ≡ _ = lines_walked J start ledger in
    ap (checked_from item) (walked es) ∙ less_pass J start item ledger es fs less good (sym (ap (checked_from item) (walked fs)) ∙ e) ∙ ap accepted (sym (walked es))

-- both kinds, at an interval and a start
module _ (item J start : ℕ) (ledger : List ℕ) (errors : List ℤ) where
  -- the projection follows from the outcome of the sizes
  pub projection_by : {o : Outcome (List Line)} → checked_lines item J start ledger (parts Size errors) ≡ o → projection_at item J start ledger errors ≡ after (λ lines. accepted (both_kinds J start ledger errors)) o
  unfolding projection_at
  projection_by e = ap (after (λ lines. accepted (both_kinds J start ledger errors))) e

  pub projection_refused : {n p : ℕ} → refused n p ≡ projection_at item J start ledger errors → checked_lines item J start ledger (parts Size errors) ≡ refused n p
  unfolding projection_at
  projection_refused e = refused_first (λ lines. both_kinds J start ledger errors) (checked_lines item J start ledger (parts Size errors)) e

  -- an accepted projection is the same whatever number the first line has
  pub first_alone : (other : ℕ) (p : Projection) → projection_at item J start ledger errors ≡ accepted p → projection_at other J start ledger errors ≡ accepted p
  unfolding projection_at checked_lines
  first_alone other p e =
      let a = after_accepted (λ lines. accepted (both_kinds J start ledger errors)) (checked_lines item J start ledger (parts Size errors)) p e in
      ap (after (λ lines. accepted (both_kinds J start ledger errors))) (checked_anywhere item other (lines_with Size J start ledger errors) a.0 a.1) ∙ a.2

  -- where the sizes pass, each part does
  pub parts_checked : (good : List Line) → checked_lines item J start ledger (parts Size errors) ≡ accepted good → (part : Part) →
      checked_lines item J start ledger (parts part errors) ≡ accepted (lines_with part J start ledger errors)
  parts_checked good e part =
      less_checked item J start ledger (parts part errors) (parts Size errors)
      (λ i. omega (arith, parts_at part errors i, parts_at Size errors i, part_most part (get_or errors i (pos 0)), part_is_size (get_or errors i (pos 0)))) good e

  -- what an accepted projection gives, of each part of the errors
  pub record ProjectedFacts (p : Projection) : Type 0 where
    pub lines : (part : Part) → checked_lines item J start ledger (parts part errors) ≡ accepted (lines_with part J start ledger errors)
    pub answer : p ≡ both_kinds J start ledger errors
    pub facts : (part : Part) → LinesFacts J start ledger (parts part errors) (lines_with part J start ledger errors)

  pub projected_facts : (p : Projection) → start ≤ J → projection_at item J start ledger errors ≡ accepted p → ProjectedFacts p
  unfolding projection_at
  projected_facts p early e =
      let a = after_accepted (λ lines. accepted (both_kinds J start ledger errors)) (checked_lines item J start ledger (parts Size errors)) p e in
      let lines = parts_checked a.0 a.1 in
      let answer : p ≡ both_kinds J start ledger errors = let w = a.2 in cc in
      record { lines = lines; answer = answer; facts = λ part. lines_facts item J start ledger (parts part errors) _ early (lines part) }

-- the most that the sums of a kind come to
pub record SumsMost (ledger : List ℕ) (figures : Figures) (full-sum sampled-sum : ℕ) : Type 0 where
  pub full : full-sum ≤ sum ledger
  pub sampled : sampled-sum ≤ figures.sampled_total + figures.interval

-- from the figures for a start, as `project` meets them
module _ (ledger : List ℕ) (n start : ℕ) (errors : List ℤ) where
  pub ready : (f : Figures) → figures_for ledger n start (length errors) ≡ accepted f → Ready 0 f.interval start ledger errors
  ready f e =
      let s = start_facts ledger n start (length errors) f e in
      let good = s.facts.ledger_good in
      record { few = omega (arith, good.few); same = good.same; narrow = s.facts.most; early = s.early; summed = good.most }

  pub project_from : {o : Outcome Figures} → o ≡ figures_for ledger n start (length errors) → after (projected_by ledger start errors) o ≡ project_of ledger n start errors
  unfolding project_of
  project_from e = ap (after (projected_by ledger start errors)) e

  -- what an accepted projection gives
  pub record ProjectFacts (p : Projection) : Type 0 where
    pub figures : Figures
    pub started : StartFacts ledger n start (length errors) figures
    pub projected : ProjectedFacts 0 figures.interval start ledger errors p
    pub over : SumsMost ledger figures p.full p.sampled
    pub under : SumsMost ledger figures p.under_full p.under_sampled
    pub m_most : p.m ≤ length ledger

  pub project_facts : (p : Projection) → project_of ledger n start errors ≡ accepted p → ProjectFacts p
  unfolding project_of
  project_facts p e =
      let a = after_accepted (projected_by ledger start errors) (figures_for ledger n start (length errors)) p e in
      let f : Figures = a.0 in
      let s = start_facts ledger n start (length errors) f a.1 in
      let at = projected_facts 0 f.interval start ledger errors p s.early a.2 in
      let row = row_figures s.facts in
      let same = at.answer in
      record {
        figures = f;
        started = s;
        projected = at;
        over = record {
          full = omega (arith, ap (λ (q : Projection). q.full) same, (at.facts Overstated).full_most);
          sampled = omega (arith, ap (λ (q : Projection). q.sampled) same, (at.facts Overstated).sampled_most, row);
        };
        under = record {
          full = omega (arith, ap (λ (q : Projection). q.under_full) same, (at.facts Understated).full_most);
          sampled = omega (arith, ap (λ (q : Projection). q.under_sampled) same, (at.facts Understated).sampled_most, row);
        };
        m_most = omega (arith, ap (λ (q : Projection). q.m) same, (at.facts Overstated).m_most);
      }

-- the refusals that the projection gives
pub projection_gives : (item J start : ℕ) (ledger : List ℕ) (errors : List ℤ) → Gives line_numbers (projection_at item J start ledger errors)
unfolding projection_at
projection_gives item J start ledger errors =
    gives_after line_numbers (λ lines. accepted (both_kinds J start ledger errors)) (checked_lines item J start ledger (parts Size errors)) (checked_give item J start ledger (parts Size errors)) (λ lines. tt)

abbrev pub project_numbers : List ℕ
project_numbers = figures_numbers ++ line_numbers

pub projected_gives : (ledger : List ℕ) (n start : ℕ) (errors : List ℤ) (beside : ℕ) → Gives project_numbers (after (projected_by ledger start errors) (figures_for ledger n start beside))
projected_gives ledger n start errors beside =
    gives_after project_numbers (projected_by ledger start errors) (figures_for ledger n start beside)
    (gives_among figures_numbers project_numbers tt (figures_for ledger n start beside) (figures_give ledger n start beside))
    (λ f. gives_among line_numbers project_numbers tt (projection_at 0 f.interval start ledger errors) (projection_gives 0 f.interval start ledger errors))

pub project_gives : (ledger : List ℕ) (n start : ℕ) (errors : List ℤ) → Gives project_numbers (project_of ledger n start errors)
unfolding project_of
project_gives ledger n start errors = projected_gives ledger n start errors (length errors)

-- a line's state and its mark
abbrev pub mark_of : State → ℕ
mark_of NotDrawn = 0
mark_of (Drawn projected) = 1
mark_of Full = 2

mark_by_lem : (f c : Bool) (a : ℕ) → mark_of (state_by f c a) ≡ pick f 2 (pick c 1 0)
mark_by_lem true c a = refl
mark_by_lem false true a = refl
mark_by_lem false false a = refl

marks_from_lem : (J s o : ℕ) (vs es : List ℕ) → map (λ (l : Line). mark_of l.state) (lines_from J s o vs es) ≡ marks_from J s o vs
unfolding lines_from marks_from
marks_from_lem J s o [] es = refl
marks_from_lem J s o (v ∷ vs) es = cc (mark_by_lem (full J v) (covers J s o v) (amount J v (get_or es 0 0)), marks_from_lem J s (o + cents J v) vs (drop 1 es))

pub same_marks : (J s : ℕ) (ledger errors : List ℕ) → map (λ (l : Line). mark_of l.state) (lines_of J s ledger errors) ≡ draw_marks J s ledger
unfolding lines_of
same_marks J s ledger errors = marks_from_lem J s 0 ledger errors ∙ sym (draw_marks_lem J s ledger)
