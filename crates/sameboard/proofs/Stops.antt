-- Counting off stops at the item that covers the point, and the points of the walk are the drawing points of the row: a line is reached exactly when it is
-- sampled and covers one. Assumes nothing.
use Prim.Native.Nat.{ℕ, zero, suc, ◌+◌, ◌*◌, ◌-◌, ◌≤◌, ◌<◌, zero-le}
use native.Mathlib.Nat.{sub-zero, suc-mul, zero-mul}
use native.Mathlib.Omega.{arith}
use mathlib.Core.Path.{◌≡◌, refl, sym, ap, subst, ◌∙◌}
use mathlib.Core.Bool.{Bool, true, false}
use mathlib.Core.List.{List, [], ◌∷◌}
use mathlib.Core.Logic.{⊎_elim}
use borrow.Author.Tests.{ltb-true, lt-ltb, le-ltb, eqb-true, eq-eqb}
use lib.Dec.{T, ltb, eqb}
use lib.ListN.{length, get_or}
use Rattle.terms.proofs.Tests.{by_test, le_or_lt}
use Rattle.draw.specs.Points.{Covers, covers}
use Rattle.draw.specs.Row.{cents, row_cents, first_cent, item_at}
use Rattle.draw.proofs.Laws.{sampled_agrees}
use Rattle.draw.proofs.Row.{first_more, first_le, CoversCent, item_covers, item_only}
use Rattle.blackboard.specs.Board.{counts_for, row_end, count_on, stop_at, points_from, points_of}
use Rattle.blackboard.proofs.Walking.{points_on, reached}

-- both rows are equally long
row_same : (J : ℕ) (ledger : List ℕ) → row_end J ledger ≡ row_cents J ledger
unfolding row_end row_cents
row_same J [] = refl
row_same J (v ∷ l) = omega (arith, row_same J l)

-- counting on from a cent is looking for the item from there
count_item : (J p c : ℕ) (l : List ℕ) → c ≤ p → count_on J p c l ≡ item_at J l (p - c)
unfolding count_on item_at
count_item J p c [] h = refl
count_item J p c (v ∷ l) h =
    ⊎_elim
    (λ (past : c + counts_for J v ≤ p). let e : p - (c + counts_for J v) ≡ p - c - counts_for J v = omega arith in
    let t : ltb p (c + counts_for J v) ≡ false = le-ltb p (c + counts_for J v) past in
    let u : ltb (p - c) (counts_for J v) ≡ false = le-ltb (p - c) (counts_for J v) (omega arith) in
    rw (t, u) (ap suc (count_item J p (c + counts_for J v) l past ∙ ap (item_at J l) e)))
    (λ (within : p < c + counts_for J v). let t : ltb p (c + counts_for J v) ≡ true = lt-ltb p (c + counts_for J v) within in
    let u : ltb (p - c) (counts_for J v) ≡ true = lt-ltb (p - c) (counts_for J v) (omega arith) in
    rw (t, u))
    (le_or_lt (c + counts_for J v) p)

pub stop_item : (J : ℕ) (ledger : List ℕ) (p : ℕ) → stop_at J ledger p ≡ item_at J ledger p
stop_item J ledger p = count_item J p 0 ledger zero-le ∙ ap (item_at J ledger) (sub-zero p)

-- some point from one on, before the row's end, stops at the line
module _ (J : ℕ) (ledger : List ℕ) (item end : ℕ) where
  Reaches : ℕ → Type 0
  Reaches point = (k : ℕ) × (point + k * J < end) × (stop_at J ledger (point + k * J) ≡ item)

  one_earlier : (point : ℕ) → Reaches (point + J) → Reaches point
  unfolding Reaches
  one_earlier point (k, h, e) =
      let same : point + J + k * J ≡ point + suc k * J = omega (arith, suc-mul k J) in
      (suc k, omega arith, ap (stop_at J ledger) (sym same) ∙ e)

  reached_by : (fuel point : ℕ) → T (reached J ledger item (points_from fuel J end point)) → Reaches point
  unfolding reached points_from Reaches
  reached_by zero point = λ t. absurd t
  reached_by (suc more) point =
      let later = reached_by more (point + J) in
      by_test (λ ps. T (reached J ledger item ps) → Reaches point) (ltb point end)
      (λ before. by_test (λ b. T b → Reaches point) (eqb item (stop_at J ledger point))
      (λ here t. let same : point ≡ point + 0 * J = omega (arith, zero-mul J) in
      (0, omega (arith, ltb-true point end before, zero-mul J), ap (stop_at J ledger) (sym same) ∙ sym (eqb-true item (stop_at J ledger point) here)))
      (λ other t. one_earlier point (later t)))
      (λ past t. absurd t)

  reaches_it : (fuel point k : ℕ) → 0 < J → end ≤ point + fuel → point + k * J < end → stop_at J ledger (point + k * J) ≡ item → T (reached J ledger item (points_from fuel J end point))
  unfolding reached
  reaches_it fuel point zero some enough h e =
      let on = points_on J end point fuel some (omega (arith, zero-mul J)) enough in
      let same : point + 0 * J ≡ point = omega (arith, zero-mul J) in
      let here : eqb item (stop_at J ledger point) ≡ true = eq-eqb item (stop_at J ledger point) (sym e ∙ ap (stop_at J ledger) same) in
      rw (on.on, here) tt
  reaches_it fuel point (suc k) some enough h e =
      let on = points_on J end point fuel some (omega arith) enough in
      let same : point + suc k * J ≡ point + J + k * J = omega (arith, suc-mul k J) in
      let later = reaches_it on.more (point + J) k some on.enough (omega arith) (ap (stop_at J ledger) (sym same) ∙ e) in
      rw on.on (by_test (λ b. T b) (eqb item (stop_at J ledger point)) (λ here. tt) (λ other. later))

-- tests that pass on the same inputs are the same
same_test : (a b : Bool) → (T a → T b) → (T b → T a) → a ≡ b
same_test true true f g = refl
same_test true false f g = absurd (f tt)
same_test false true f g = absurd (g tt)
same_test false false f g = refl

no_test : (a : Bool) → (T a → ⊥) → a ≡ false
no_test true f = absurd (f tt)
no_test false f = refl

module _ (J start : ℕ) (ledger : List ℕ) (item : ℕ) (inside : item < length ledger) where
  -- a line that is reached covers a point
  covered : T (reached J ledger item (points_of J start ledger)) → (k : ℕ) × CoversCent J ledger (start + k * J) item
  unfolding points_of Reaches
  covered t =
      let r = reached_by J ledger item (row_end J ledger) (row_end J ledger) start t in
      let at : item_at J ledger (start + r.0 * J) ≡ item = sym (stop_item J ledger (start + r.0 * J)) ∙ r.2 in
      (r.0, subst (λ (i : ℕ). CoversCent J ledger (start + r.0 * J) i) at (item_covers J ledger (start + r.0 * J) (omega arith)))

  -- and one that covers a point is reached
  reaches : (k : ℕ) → 0 < J → CoversCent J ledger (start + k * J) item → T (reached J ledger item (points_of J start ledger))
  unfolding points_of
  reaches k some c =
      reaches_it J ledger item (row_end J ledger) (row_end J ledger) start k some (omega arith)
      (omega (arith, c.1, first_more J ledger item inside, first_le J ledger (item + 1), row_same J ledger))
      (stop_item J ledger (start + k * J) ∙ sym (item_only J ledger (start + k * J) item inside c))

  pub reached_full : J < get_or ledger item 0 → reached J ledger item (points_of J start ledger) ≡ false
  reached_full h =
      let none : cents J (get_or ledger item 0) ≡ 0 = simp (lt-ltb _ _ h) in
      no_test (reached J ledger item (points_of J start ledger)) (λ t. let c = (covered t).1 in omega (arith, c.0, c.1))

  pub reached_covers : get_or ledger item 0 ≤ J → reached J ledger item (points_of J start ledger) ≡ covers J start (first_cent J ledger item) (get_or ledger item 0)
  unfolding Covers
  reached_covers small =
      let v : ℕ = get_or ledger item 0 in
      let o : ℕ = first_cent J ledger item in
      let whole : cents J v ≡ v = simp (le-ltb _ _ small) in
      let agree = sampled_agrees J start o v small in
      same_test (reached J ledger item (points_of J start ledger)) (covers J start o v)
      (λ t. let r = covered t in agree.0 (r.0, r.1.0, omega (arith, r.1.1)))
      (λ t. let w = agree.1 t in reaches w.0 (omega (arith, w.1, w.2)) (w.1, omega (arith, w.2)))
