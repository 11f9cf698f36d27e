-- By the marks of a draw and by the states of the projection the same errors are out of place: which line a projection refuses, and which lines
-- pass. Assumes nothing.
use Prim.Native.Nat.{ℕ, zero, suc, ◌+◌, ◌≤◌, ◌<◌}
use native.Mathlib.Nat.{not-suc-le-zero, le_of_suc-le-suc}
use native.Mathlib.Omega.{arith}
use mathlib.Core.Path.{◌≡◌, refl, sym, subst, ◌∙◌}
use mathlib.Core.Bool.{Bool, true, false}
use mathlib.Core.List.{List, [], ◌∷◌}
use borrow.Author.Tests.{le-ltb, ltb-false, eqb-true}
use lib.Dec.{eqb, ltb}
use lib.ListN.{length, get_or, drop}
use Rattle.terms.specs.Outcome.{Outcome, accepted, refused, after}
use Rattle.terms.specs.Numbers.{pick}
use Rattle.terms.proofs.Outcomes.{never, refused_first}
use Rattle.terms.proofs.Tests.{by_test}
use Rattle.draw.specs.Points.{covers}
use Rattle.draw.specs.Row.{full, cents, mark_by, marks_from}
use Rattle.project.specs.declared.{Line.Line}
use Rattle.project.specs.Lines.{amount, state_by, line_from, lines_from}
use Rattle.project.specs.Project.{misplaced, checked_line, checked_from}
use Rattle.project.proofs.Checking.{Sound, is_sound, checked_rest}
use Rattle.findings.specs.Findings as findings
use Rattle.findings.proofs.Rules.{placed_none}

-- an error of some size on a line with a mark breaks neither 14 nor 15
pub record Passes (value mark error : ℕ) : Type 0 where
  pub within : error ≤ value
  pub marked : findings.misplaced mark error ≡ false

-- by the mark and by the state the same errors are misplaced
none_by : (error : ℕ) (b : Bool) → eqb error 0 ≡ b → pick b false true ≡ false → ltb 0 error ≡ false
none_by error true e h = le-ltb 0 error (omega (arith, eqb-true error 0 e))
none_by error false e h = absurd (let z : ◌≡◌ {A = ℕ} 0 1 = cc in omega arith)

state_fine : (f c : Bool) (a error : ℕ) → findings.misplaced (mark_by f c) error ≡ false → misplaced (state_by f c a) error ≡ false
state_fine true c a error h = refl
state_fine false true a error h = refl
state_fine false false a error h = none_by error (eqb error 0) refl h

none_back : (error : ℕ) → ltb 0 error ≡ false → findings.misplaced 0 error ≡ false
none_back error h = let none : error ≡ 0 = omega (arith, ltb-false 0 error h) in sym (placed_none 0 error none)

pick_false : (b : Bool) → ◌≡◌ {A = Bool} (pick b false false) false
pick_false true = refl
pick_false false = refl

mark_fine : (f c : Bool) (a error : ℕ) → misplaced (state_by f c a) error ≡ false → findings.misplaced (mark_by f c) error ≡ false
mark_fine true c a error h = pick_false (eqb error 0)
mark_fine false true a error h = pick_false (eqb error 0)
mark_fine false false a error h = none_back error h

-- a line's refusal names the line
place_is : (item : ℕ) (l : Line) {n p : ℕ} → checked_line item l ≡ refused n p → p ≡ item
unfolding checked_line
place_is item l {n} {p} =
    by_test (λ (o : Outcome Line). o ≡ refused n p → p ≡ item) (ltb l.value l.error) (λ t e. cc)
    (λ t. by_test (λ (o : Outcome Line). o ≡ refused n p → p ≡ item) (misplaced l.state l.error) (λ u e. cc) (λ u e. never (sym e)))

drop_one : (es : List ℕ) (i : ℕ) → get_or (drop 1 es) i 0 ≡ get_or es (suc i) 0
drop_one [] i = refl
drop_one (e ∷ es) i = refl

-- the lines from a cent of the row on
module _ (J s : ℕ) where
  -- a refused line does not pass
  pub record Fault (o item : ℕ) (vs es : List ℕ) (p : ℕ) : Type 0 where
    pub line : ℕ
    pub counted : p ≡ item + line
    pub inside : line < length vs
    pub broken : ¬ (Passes (get_or vs line 0) (get_or (marks_from J s o vs) line 0) (get_or es line 0))

  passes_sound : (o item v e : ℕ) → Passes v (mark_by (full J v) (covers J s o v)) e → Sound item (line_from J s o v e)
  passes_sound o item v e h = is_sound item (line_from J s o v e) h.within (state_fine (full J v) (covers J s o v) (amount J v e) e h.marked)

  fault_by : (o item v : ℕ) (vs es : List ℕ) (n p : ℕ) →
      (checked_from (suc item) (lines_from J s (o + cents J v) vs (drop 1 es)) ≡ refused n p → Fault (o + cents J v) (suc item) vs (drop 1 es) p) →
      (c : Outcome Line) → checked_line item (line_from J s o v (get_or es 0 0)) ≡ c →
      after (λ good. after (λ rest. accepted (good ∷ rest)) (checked_from (suc item) (lines_from J s (o + cents J v) vs (drop 1 es)))) c ≡ refused n p → Fault o item (v ∷ vs) es p
  unfolding marks_from
  fault_by o item v vs es n p again (accepted k) is e =
      let f = again (refused_first (λ rest. k ∷ rest) (checked_from (suc item) (lines_from J s (o + cents J v) vs (drop 1 es))) (sym e)) in
      record {
        line = suc f.line;
        counted = omega (arith, f.counted);
        inside = omega (arith, f.inside);
        broken = λ h. f.broken (subst (Passes (get_or vs f.line 0) (get_or (marks_from J s (o + cents J v) vs) f.line 0)) (sym (drop_one es f.line)) h);
      }
  fault_by o item v vs es n p again (refused m q) is e =
      let here : q ≡ item = place_is item (line_from J s o v (get_or es 0 0)) is in
      let same : q ≡ p = cc in
      record { line = 0; counted = omega (arith, here, same); inside = omega arith; broken = λ h. never (sym is ∙ (passes_sound o item v (get_or es 0 0) h).passes) }

  pub fault : (o item : ℕ) (vs es : List ℕ) (n p : ℕ) → checked_from item (lines_from J s o vs es) ≡ refused n p → Fault o item vs es p
  unfolding lines_from checked_from
  fault o item [] es n p e = never (sym e)
  fault o item (v ∷ vs) es n p e =
      fault_by o item v vs es n p (fault (o + cents J v) (suc item) vs (drop 1 es) n p) (checked_line item (line_from J s o v (get_or es 0 0))) refl e

  -- where all lines are accepted, each passes
  pub each_passes : (o item : ℕ) (vs es : List ℕ) (good : List Line) → checked_from item (lines_from J s o vs es) ≡ accepted good → (i : ℕ) → i < length vs →
      Passes (get_or vs i 0) (get_or (marks_from J s o vs) i 0) (get_or es i 0)
  unfolding lines_from marks_from
  each_passes o item [] es good e i h = absurd (not-suc-le-zero h)
  each_passes o item (v ∷ vs) es good e zero h =
      let c = checked_rest item (line_from J s o v (get_or es 0 0)) (lines_from J s (o + cents J v) vs (drop 1 es)) good e in
      record { within = c.sound.within; marked = mark_fine (full J v) (covers J s o v) (amount J v (get_or es 0 0)) (get_or es 0 0) c.sound.fine }
  each_passes o item (v ∷ vs) es good e (suc i) h =
      let c = checked_rest item (line_from J s o v (get_or es 0 0)) (lines_from J s (o + cents J v) vs (drop 1 es)) good e in
      subst (Passes (get_or vs i 0) (get_or (marks_from J s (o + cents J v) vs) i 0)) (drop_one es i)
      (each_passes (o + cents J v) (suc item) vs (drop 1 es) (lines_from J s (o + cents J v) vs (drop 1 es)) c.rest i (le_of_suc-le-suc h))
