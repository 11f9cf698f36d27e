-- Demand 3 at an interval J, for any part of the errors: the draw and the projection, line by line and over all starts. Assumes nothing.
use Prim.Native.Nat.{ℕ, suc, ◌+◌, ◌*◌, ◌≤◌, ◌<◌, min, zero-le}
use native.Mathlib.Nat.{mul-add, one-mul, zero-mul, mul-zero}
use native.Mathlib.Omega.{arith}
use mathlib.Core.Path.{◌≡◌, refl, sym, ap, subst, ◌∙◌}
use mathlib.Core.Bool.{Bool, true, false}
use mathlib.Core.List.{List, [], ◌∷◌}
use borrow.Author.Tests.{ltb-true, ltb-false}
use lib.Dec.{eqb}
use lib.IntN.{ℤ, pos}
use lib.ListN.{length, get_or, drop}
use Rattle.terms.specs.Numbers.{pick}
use Rattle.terms.specs.Outcome.{accepted}
use Rattle.signed.specs.declared.Part.{Part}
use Rattle.signed.specs.Parts.{part_of, parts}
use Rattle.signed.proofs.Laws.{part_none, parts_at, parts_drop}
use Rattle.signed.proofs.Lists.{parts_nil, parts_cons}
use Rattle.draw.specs.Points.{covers}
use Rattle.draw.specs.Row.{full, cents, row_cents, first_cent, mark_by, marks_from, draw_marks}
use Rattle.draw.proofs.Laws.{row_nil, row_more, marks_more, marks_length, mark_at}
use Rattle.project.specs.declared.State.{State}
use Rattle.project.specs.declared.Line.{Line}
use Rattle.project.specs.Lines.{amount, state_by, line_from, lines_from, full_part, sampled_part, total}
use Rattle.project.specs.Project.{misplaced, checked_from}
use Rattle.project.proofs.Amounts.{amount_least, amount_over}
use Rattle.project.proofs.Lines.{lines_none, lines_more, total_none, total_more}
use Rattle.project.proofs.Checking.{checked_none, checked_before}
use Rattle.demands.specs.Starts.{sum_below, one_if, Within, entered_of, entered, sampled_error, full_error}
use Rattle.demands.proofs.Sums.{sum_cong, sum_add, sum_const, sum_times, covered_at}

-- One line, by whether it is full and whether it covers a point: what is entered of its error, and what it gives.
abbrev kept : Bool → Bool → ℕ → ℕ
kept f c e = entered_of 0 (mark_by f c) e

sampled_line : (f c : Bool) (g : ℕ → ℕ) (e : ℕ) → sampled_part (state_by f c (g (kept f c e))) (kept f c e) ≡ pick f 0 (one_if c * g e)
sampled_line true c g e = refl
sampled_line false true g e = sym (one-mul (g e))
sampled_line false false g e = sym (zero-mul (g e))

full_line : (f c : Bool) (g : ℕ → ℕ) (e : ℕ) → full_part (state_by f c (g (kept f c e))) (kept f c e) ≡ pick f e 0
full_line true c g e = refl
full_line false true g e = refl
full_line false false g e = refl

mark_line : (c : Bool) → one_if (eqb (mark_by false c) 1) ≡ one_if c
mark_line true = refl
mark_line false = refl

-- Each sampled line is drawn in exactly as many starts as it has cents.
module _ (J : ℕ) (some : 0 < J) where
  drawn_first : (o v : ℕ) (f : Bool) → full J v ≡ f → v ≤ J → sum_below J (λ s. one_if (eqb (mark_by f (covers J s o v)) 1)) ≡ v
  drawn_first o v true q h = absurd (omega (arith, ltb-true J v q))
  drawn_first o v false q h = sum_cong J _ (λ s. one_if (covers J s o v)) (λ s l. mark_line (covers J s o v)) ∙ covered_at J o v some h

  pub drawn_each : (ledger : List ℕ) (item : ℕ) → item < length ledger → get_or ledger item 0 ≤ J →
      sum_below J (λ s. one_if (eqb (get_or (draw_marks J s ledger) item 0) 1)) ≡ get_or ledger item 0
  drawn_each ledger item inside h =
      let v : ℕ = get_or ledger item 0 in
      let o : ℕ = first_cent J ledger item in
      sum_cong J _ (λ s. one_if (eqb (mark_by (full J v) (covers J s o v)) 1)) (λ s l. ap (λ (mark : ℕ). one_if (eqb mark 1)) (mark_at J s ledger item inside))
      ∙ drawn_first o v (full J v) refl h

-- The lines at a start, where the errors of drawn and full lines are entered.
abbrev pub entered_lines : ℕ → ℕ → ℕ → List ℕ → List ℕ → List Line
entered_lines J s o vs es = lines_from J s o vs (entered 0 (marks_from J s o vs) es)

module _ (J s o : ℕ) where
  entered_more : (v : ℕ) (vs es : List ℕ) →
      entered_lines J s o (v ∷ vs) es ≡ line_from J s o v (kept (full J v) (covers J s o v) (get_or es 0 0)) ∷ entered_lines J s (o + cents J v) vs (drop 1 es)
  unfolding entered
  entered_more v vs es = ap (λ (marks : List ℕ). lines_from J s o (v ∷ vs) (entered 0 marks es)) (marks_more J s o v vs) ∙ lines_more J s o v vs _

  total_entered : (part : State → ℕ → ℕ) (v : ℕ) (vs es : List ℕ) → let e : ℕ = kept (full J v) (covers J s o v) (get_or es 0 0) in
      total part (entered_lines J s o (v ∷ vs) es)
      ≡ part (state_by (full J v) (covers J s o v) (amount J v e)) e + total part (entered_lines J s (o + cents J v) vs (drop 1 es))
  total_entered part v vs es = ap (total part) (entered_more v vs es) ∙ total_more part _ _

  total_nothing : (part : State → ℕ → ℕ) (es : List ℕ) → total part (entered_lines J s o [] es) ≡ 0
  total_nothing part es = ap (total part) (lines_none J s o _) ∙ total_none part

-- the amounts over all starts: each line's amount as often as it has cents
pub weighted : ℕ → List ℕ → List ℕ → ℕ
weighted J [] es = 0
weighted J (v ∷ vs) es = pick (full J v) 0 (v * amount J v (get_or es 0 0)) + weighted J vs (drop 1 es)

module _ (J : ℕ) (some : 0 < J) where
  line_all : (o v a : ℕ) (f : Bool) → full J v ≡ f → sum_below J (λ s. pick f 0 (one_if (covers J s o v) * a)) ≡ pick f 0 (v * a)
  line_all o v a true q = sum_const J 0 ∙ mul-zero J
  line_all o v a false q = sum_times J (λ s. one_if (covers J s o v)) a ∙ ap (λ (n : ℕ). n * a) (covered_at J o v some (ltb-false J v q))

  pub projected_all : (o : ℕ) (vs es : List ℕ) → sum_below J (λ s. total sampled_part (entered_lines J s o vs es)) ≡ weighted J vs es
  unfolding weighted
  projected_all o [] es = sum_cong J _ (λ s. 0) (λ s l. total_nothing J s o sampled_part es) ∙ sum_const J 0 ∙ mul-zero J
  projected_all o (v ∷ vs) es =
      let e : ℕ = get_or es 0 0 in
      sum_cong J _ (λ s. pick (full J v) 0 (one_if (covers J s o v) * amount J v e) + total sampled_part (entered_lines J s (o + cents J v) vs (drop 1 es)))
      (λ s l. total_entered J s o sampled_part v vs es
      ∙ ap (λ (n : ℕ). n + total sampled_part (entered_lines J s (o + cents J v) vs (drop 1 es))) (sampled_line (full J v) (covers J s o v) (amount J v) e))
      ∙ sum_add J _ _
      ∙ cc (line_all o v (amount J v e) (full J v) refl, projected_all (o + cents J v) vs (drop 1 es))

-- the full lines' errors, at any start
pub full_all : (J s o : ℕ) (vs es : List ℕ) → total full_part (entered_lines J s o vs es) ≡ full_error J vs es
unfolding full_error
full_all J s o [] es = total_nothing J s o full_part es
full_all J s o (v ∷ vs) es =
    total_entered J s o full_part v vs es
    ∙ cc (full_line (full J v) (covers J s o v) (amount J v) (get_or es 0 0), full_all J s (o + cents J v) vs (drop 1 es))

pub within_later : (v : ℕ) (vs es : List ℕ) → Within (v ∷ vs) es → Within vs (drop 1 es)
unfolding Within
within_later v vs [] h = λ item. zero-le
within_later v vs (e ∷ es) h = λ item. h (suc item)

-- Rounding up: never less, and less than the book value more; on a line, and over the lines.
module _ (J : ℕ) where
  least_line : (v e : ℕ) (f : Bool) → e ≤ v → J * pick f 0 e ≤ pick f 0 (v * amount J v e)
  least_line v e true h = omega (arith, mul-zero J)
  least_line v e false h = amount_least J v e h

  most_line : (v e : ℕ) (f : Bool) → pick f 0 (v * amount J v e) + min 1 (pick f 0 v) ≤ J * pick f 0 e + pick f 0 v
  most_line v e true = omega (arith, mul-zero J)
  most_line v e false = amount_over J v e

  pub least_all : (vs es : List ℕ) → Within vs es → J * sampled_error J vs es ≤ weighted J vs es
  unfolding sampled_error weighted Within
  least_all [] es h = omega (arith, mul-zero J)
  least_all (v ∷ vs) es h =
      omega (
        arith,
        mul-add J (pick (full J v) 0 (get_or es 0 0)) (sampled_error J vs (drop 1 es)),
        least_line v (get_or es 0 0) (full J v) (h 0),
        least_all vs (drop 1 es) (within_later v vs es h),
      )

  pub most_all : (vs es : List ℕ) → weighted J vs es + min 1 (row_cents J vs) ≤ J * sampled_error J vs es + row_cents J vs
  unfolding sampled_error weighted
  most_all [] es = omega (arith, mul-zero J, row_nil J)
  most_all (v ∷ vs) es =
      omega (
        arith,
        mul-add J (pick (full J v) 0 (get_or es 0 0)) (sampled_error J vs (drop 1 es)),
        row_more J v vs,
        most_line v (get_or es 0 0) (full J v),
        most_all vs (drop 1 es),
      )

-- What is entered breaks no rule.
entered_line : (f c : Bool) (g : ℕ → ℕ) (e v : ℕ) → e ≤ v → (kept f c e ≤ v) × (misplaced (state_by f c (g (kept f c e))) (kept f c e) ≡ false)
entered_line true c g e v h = (h, refl)
entered_line false true g e v h = (h, refl)
entered_line false false g e v h = (omega (arith, h), refl)

pub entered_clean : (J s o item : ℕ) (vs es : List ℕ) → Within vs es → checked_from item (entered_lines J s o vs es) ≡ accepted (entered_lines J s o vs es)
unfolding Within
entered_clean J s o item [] es h = subst (λ (ls : List Line). checked_from item ls ≡ accepted ls) (sym (lines_none J s o _)) (checked_none item)
entered_clean J s o item (v ∷ vs) es h =
    let q = entered_line (full J v) (covers J s o v) (amount J v) (get_or es 0 0) v (h 0) in
    subst (λ (ls : List Line). checked_from item ls ≡ accepted ls) (sym (entered_more J s o v vs es))
    (checked_before item _ _ q.0 q.1 (entered_clean J s (o + cents J v) (suc item) vs (drop 1 es) (within_later v vs es h)))

-- There is an entry for each line, and what is entered of a part is that part of what is entered.
as_marks : {A : Type 0} (none : A) (marks : List ℕ) (es : List A) → length (entered none marks es) ≡ length marks
unfolding entered
as_marks none [] es = refl
as_marks none (mark ∷ later) es = ap suc (as_marks none later (drop 1 es))

pub entered_length : {A : Type 0} (none : A) (J s o : ℕ) (vs : List ℕ) (es : List A) → length (entered none (marks_from J s o vs) es) ≡ length vs
entered_length none J s o vs es = as_marks none (marks_from J s o vs) es ∙ marks_length J s o vs

part_entered : (p : Part) (b : Bool) (e : ℤ) → part_of p (pick b (pos 0) e) ≡ pick b 0 (part_of p e)
part_entered p true e = part_none p
part_entered p false e = refl

pub entered_part : (p : Part) (marks : List ℕ) (es : List ℤ) → parts p (entered (pos 0) marks es) ≡ entered 0 marks (parts p es)
unfolding entered
entered_part p [] es = parts_nil p
entered_part p (mark ∷ later) es =
    parts_cons p _ _
    ∙ cc (part_entered p (eqb mark 0) (get_or es 0 (pos 0)), parts_at p es 0, entered_part p later (drop 1 es), parts_drop p 1 es)
