-- Where the walk stands while the lines are gone through in order: at a point whose counting stops at the line in hand or at a later one. Assumes nothing.
use Prim.Native.Nat.{ℕ, zero, suc, ◌+◌, ◌≤◌, ◌<◌, zero-le}
use native.Mathlib.Omega.{arith}
use mathlib.Core.Path.{◌≡◌, refl, ◌∙◌}
use mathlib.Core.Bool.{Bool, true, false}
use mathlib.Core.List.{List}
use mathlib.Core.Logic.{⊎_elim}
use borrow.Author.Tests.{eqb-true, eqb-false, eq-eqb, ne_eqb, le-ltb}
use lib.Dec.{ltb, eqb}
use lib.ListN.{length, get_or}
use Rattle.terms.specs.Numbers.{pick}
use Rattle.terms.specs.Limits.{most_total, most_interval}
use Rattle.terms.proofs.Tests.{by_test, le_or_lt}
use Rattle.blackboard.specs.declared.Walker.{Walker}
use Rattle.blackboard.specs.Board.{row_end, stop_at, points_from, points_of, board_marks}
use Rattle.blackboard.specs.Steps.{OnBoard, mark_where, walker_at, walker_after}
use Rattle.blackboard.proofs.Counting.{counts_some, end_total, some_interval, stop_before, stop_counts, stop_rises, stop_later}
use Rattle.blackboard.proofs.Walking.{Onward, points_on, reached, board_mark}

-- a line before the one at which a point stops is reached by no later point
not_later : (J : ℕ) (ledger : List ℕ) (line end fuel point : ℕ) → line < stop_at J ledger point → reached J ledger line (points_from fuel J end point) ≡ false
unfolding reached points_from
not_later J ledger line end zero point h = refl
not_later J ledger line end (suc more) point h =
    let off : eqb line (stop_at J ledger point) ≡ false = ne_eqb _ _ (λ (z : line ≡ stop_at J ledger point). omega arith) in
    by_test (λ ps. reached J ledger line ps ≡ false) (ltb point end)
    (λ t. rw off (not_later J ledger line end more (point + J) (omega (arith, stop_rises J point (point + J) 0 ledger (omega arith))))) (λ t. refl)

pub record Standing (J start : ℕ) (ledger : List ℕ) (line : ℕ) (at : Walker) : Type 0 where
  pub fuel : ℕ
  pub enough : row_end J ledger ≤ at.point + fuel
  pub stops : at.stop ≡ stop_at J ledger at.point
  pub ahead : line ≤ at.stop
  pub near : at.point ≤ most_total + most_interval
  pub same : (i : ℕ) → line ≤ i → reached J ledger i (points_of J start ledger) ≡ reached J ledger i (points_from fuel J (row_end J ledger) at.point)

pub standing_first : (J start : ℕ) (ledger : List ℕ) (at : Walker) → OnBoard J ledger → start ≤ J → at ≡ walker_at J ledger start → Standing J start ledger 0 at
unfolding points_of
standing_first J start ledger at board early e =
    rw e (record { fuel = row_end J ledger; enough = omega arith; stops = refl; ahead = zero-le; near = omega (arith, board.narrow); same = λ i h. refl })

module _ (J start : ℕ) (ledger : List ℕ) (line : ℕ) (at : Walker) (by : Standing J start ledger line at) (more : line < length ledger) where
  -- the counting stops at this line
  module _ (here : line ≡ at.stop) where
    inside : stop_at J ledger at.point < length ledger
    inside = omega (arith, by.stops)

    before : at.point < row_end J ledger
    before = omega (arith, stop_before J at.point 0 ledger zero-le inside)

    onward : Onward J (row_end J ledger) at.point by.fuel
    onward = points_on J (row_end J ledger) at.point by.fuel (some_interval J at.point ledger before) before by.enough

    drawn_small : (0 < get_or ledger line 0) × (get_or ledger line 0 ≤ J)
    drawn_small =
        let e : line ≡ stop_at J ledger at.point = here ∙ by.stops in
        counts_some J (get_or ledger line 0) (rw e (stop_counts J at.point 0 ledger zero-le inside))

    is_reached : reached J ledger line (points_of J start ledger) ≡ true
    unfolding reached
    is_reached =
        let e : eqb line (stop_at J ledger at.point) ≡ true = eq-eqb _ _ (here ∙ by.stops) in
        by.same line (omega arith) ∙ rw (onward.on, e)

    later_same : (i : ℕ) → line + 1 ≤ i → reached J ledger i (points_of J start ledger) ≡ reached J ledger i (points_from onward.more J (row_end J ledger) (at.point + J))
    unfolding reached
    later_same i h =
        let e : eqb i (stop_at J ledger at.point) ≡ false = ne_eqb _ _ (λ (z : i ≡ stop_at J ledger at.point). omega (arith, by.stops)) in
        by.same i (omega arith) ∙ rw (onward.on, e)

    walks_on : OnBoard J ledger → Standing J start ledger (line + 1) (record { point = at.point + J; stop = stop_at J ledger (at.point + J) })
    walks_on board =
        let b = before in
        record {
          fuel = onward.more;
          enough = onward.enough;
          stops = refl;
          ahead = omega (arith, by.stops, stop_later J at.point 0 ledger zero-le inside);
          near = omega (arith, board.narrow, board.summed, end_total J ledger);
          same = later_same;
        }

  -- it stops at a later one
  module _ (other : line ≡ at.stop → ⊥) where
    apart : line < at.stop
    apart = ⊎_elim (λ (l : at.stop ≤ line). absurd (other (omega (arith, by.ahead)))) (λ l. l) (le_or_lt at.stop line)

    not_reached : reached J ledger line (points_of J start ledger) ≡ false
    not_reached = by.same line (omega arith) ∙ not_later J ledger line (row_end J ledger) by.fuel at.point (omega (arith, by.stops, apart))

    stays : Standing J start ledger (line + 1) at
    stays =
        let a = apart in
        record { fuel = by.fuel; enough = by.enough; stops = by.stops; ahead = omega arith; near = by.near; same = λ i h. by.same i (omega arith) }

  pub standing_on : OnBoard J ledger → Standing J start ledger (line + 1) (walker_after J ledger at line)
  standing_on board =
      by_test (λ (w : Walker). Standing J start ledger (line + 1) w) (eqb line at.stop)
      (λ t. walks_on (eqb-true _ _ t) board) (λ t. stays (eqb-false _ _ t))

  mark_by_lem : (b : Bool) → eqb line at.stop ≡ b → get_or (board_marks J start ledger) line 0 ≡ pick (ltb J (get_or ledger line 0)) 2 (pick b 1 0)
  mark_by_lem true e =
      let here = eqb-true _ _ e in
      let small : ltb J (get_or ledger line 0) ≡ false = le-ltb _ _ (drawn_small here).1 in
      board_mark J start ledger line more ∙ rw (is_reached here, small)
  mark_by_lem false e = board_mark J start ledger line more ∙ rw (not_reached (eqb-false _ _ e))

  -- the mark by the stop is the mark of the walk
  pub standing_mark : get_or (board_marks J start ledger) line 0 ≡ mark_where J (get_or ledger line 0) line at.stop
  standing_mark = mark_by_lem (eqb line at.stop) refl

  -- a line marked 1 has cents, and no more than J
  pub standing_drawn : mark_where J (get_or ledger line 0) line at.stop ≡ 1 → (0 < get_or ledger line 0) × (get_or ledger line 0 ≤ J)
  standing_drawn =
      let v : ℕ = get_or ledger line 0 in
      by_test (λ m. m ≡ 1 → (0 < v) × (v ≤ J)) (ltb J v) (λ t z. absurd (omega arith))
      (λ t. by_test (λ m. m ≡ 1 → (0 < v) × (v ≤ J)) (eqb line at.stop) (λ q z. drawn_small (eqb-true _ _ q)) (λ q z. absurd (omega arith)))

-- the point moves by J where a line is marked 1
point_by : (J point : ℕ) (f b : Bool) → point + pick (eqb (pick f 2 (pick b 1 0)) 1) J 0 ≤ pick b (point + J) point
point_by J point true true = omega arith
point_by J point true false = omega arith
point_by J point false true = omega arith
point_by J point false false = omega arith

at_point : (b : Bool) (w v : Walker) → (pick b w v).point ≡ pick b w.point v.point
at_point true w v = refl
at_point false w v = refl

pub point_on : (J value : ℕ) (ledger : List ℕ) (at : Walker) (line : ℕ) → at.point + pick (eqb (mark_where J value line at.stop) 1) J 0 ≤ (walker_after J ledger at line).point
point_on J value ledger at line =
    let b : Bool = eqb line at.stop in
    omega (arith, point_by J at.point (ltb J value) b, at_point b (record { point = at.point + J; stop = stop_at J ledger (at.point + J) }) at)
