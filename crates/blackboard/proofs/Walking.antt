-- The walk from point to point: which points there are, and what it leaves at a line. Assumes nothing.
use Prim.Native.Nat.{ℕ, zero, suc, ◌+◌, ◌*◌, ◌≤◌, ◌<◌}
use native.Mathlib.Nat.{zero-mul, suc-mul, not-suc-le-zero, le_of_suc-le-suc}
use native.Mathlib.Omega.{arith}
use mathlib.Core.Path.{◌≡◌, refl, sym, ap, ◌∙◌}
use mathlib.Core.Bool.{Bool, true, false}
use mathlib.Core.List.{List, [], ◌∷◌}
use borrow.Author.Tests.{ltb-true, eqb-true, eqb-false, lt-ltb, le-ltb}
use lib.Dec.{ltb, eqb}
use lib.ListN.{length, get_or, set, length-set, length-map}
use lib.Seq.{get_or-set_same, get_or-set_other}
use Rattle.terms.specs.Numbers.{pick}
use Rattle.terms.specs.Limits.{most_total}
use Rattle.terms.proofs.Tests.{by_test}
use Rattle.split.specs.Split.{full_mark, full_marks}
use Rattle.blackboard.specs.Board.{row_end, stop_at, points_from, points_of, marked, board_marks}
use Rattle.blackboard.specs.Steps.{OnBoard}
use Rattle.blackboard.proofs.Counting.{end_total, some_interval, stop_inside}

-- before the row's end: this point, and those J later
pub record Onward (J end point fuel : ℕ) : Type 0 where
  pub more : ℕ
  pub on : points_from fuel J end point ≡ point ∷ points_from more J end (point + J)
  pub enough : end ≤ point + J + more

pub points_on : (J end point fuel : ℕ) → 0 < J → point < end → end ≤ point + fuel → Onward J end point fuel
unfolding points_from
points_on J end point zero some h e = absurd (omega arith)
points_on J end point (suc more) some h e = record { more = more; on = rw (lt-ltb point end h); enough = omega arith }

points_past : (J end point fuel : ℕ) → end ≤ point → points_from fuel J end point ≡ []
unfolding points_from
points_past J end point zero h = refl
points_past J end point (suc more) h = rw (le-ltb point end h)

each_point : (J end point fuel k : ℕ) → 0 < J → end ≤ point + fuel → point + k * J < end → get_or (points_from fuel J end point) k 0 ≡ point + k * J
each_point J end point fuel zero some enough h =
    let on = points_on J end point fuel some (omega (arith, zero-mul J)) enough in
    rw on.on (omega (arith, zero-mul J))
each_point J end point fuel (suc k) some enough h =
    let on = points_on J end point fuel some (omega arith) enough in
    let later = each_point J end (point + J) on.more k some on.enough (omega (arith, suc-mul k J)) in
    rw on.on (omega (arith, later, suc-mul k J))

only_point : (J end point fuel k : ℕ) → k < length (points_from fuel J end point) → point + k * J < end
unfolding points_from
only_point J end point zero k = λ h. absurd (not-suc-le-zero h)
only_point J end point (suc more) zero =
    by_test (λ (ps : List ℕ). 0 < length ps → point + 0 * J < end) (ltb point end) (λ t h. omega (arith, ltb-true point end t, zero-mul J)) (λ t h. absurd (not-suc-le-zero h))
only_point J end point (suc more) (suc k) =
    by_test (λ (ps : List ℕ). suc k < length ps → point + suc k * J < end) (ltb point end)
    (λ t h. omega (arith, only_point J end (point + J) more k (le_of_suc-le-suc h), suc-mul k J)) (λ t h. absurd (not-suc-le-zero h))

-- the points of the walk are start, start + J, start + 2J and so on: each that lies before the row's end, and no other
module _ (J start : ℕ) (ledger : List ℕ) (k : ℕ) where
  pub points_each : start + k * J < row_end J ledger → get_or (points_of J start ledger) k 0 ≡ start + k * J
  unfolding points_of
  points_each h = each_point J (row_end J ledger) start (row_end J ledger) k (some_interval J (start + k * J) ledger h) (omega arith) h

  pub points_only : k < length (points_of J start ledger) → start + k * J < row_end J ledger
  unfolding points_of
  points_only h = only_point J (row_end J ledger) start (row_end J ledger) k h

-- the loop over the points: walking on from a point over the marks as they are leaves what the whole walk leaves
pub record Walking (J start : ℕ) (ledger before marks : List ℕ) (point : ℕ) : Type 0 where
  pub fuel : ℕ
  pub board : OnBoard J ledger
  pub enough : row_end J ledger ≤ point + fuel
  pub began : length before ≡ length ledger
  pub same : length marks ≡ length ledger
  pub whole : marked J ledger (points_of J start ledger) before ≡ marked J ledger (points_from fuel J (row_end J ledger) point) marks

pub walking_start : {J start : ℕ} {ledger before : List ℕ} → OnBoard J ledger → length before ≡ length ledger → Walking J start ledger before before start
unfolding points_of
walking_start {J} {start} {ledger} board e = record { fuel = row_end J ledger; board = board; enough = omega arith; began = e; same = e; whole = refl }

module _ {J start : ℕ} {ledger before marks : List ℕ} {point : ℕ} (at : Walking J start ledger before marks point) where
  module _ {end : ℕ} (ends : end ≡ row_end J ledger) (h : point < end) where
    ahead : point < row_end J ledger
    ahead = omega arith

    onward : Onward J (row_end J ledger) point at.fuel
    onward = points_on J (row_end J ledger) point at.fuel (some_interval J point ledger ahead) ahead at.enough

    pub walking_some : 0 < J
    walking_some = some_interval J point ledger ahead

    module _ {line : ℕ} (stops : line ≡ stop_at J ledger point) where
      pub walking_inside : line < length marks
      walking_inside = omega (arith, at.same, stop_inside J point 0 ledger (omega arith) (omega (arith, ahead)))

      pub walking_on : Walking J start ledger before (set marks line 1) (point + J)
      unfolding marked
      walking_on =
          record {
            fuel = onward.more;
            board = at.board;
            enough = onward.enough;
            began = at.began;
            same = length-set marks line 1 ∙ at.same;
            whole = at.whole ∙ rw (onward.on, stops);
          }

  pub walking_most : row_end J ledger ≤ most_total
  walking_most = omega (arith, end_total J ledger, at.board.summed)

  pub walking_same : length marks ≡ length before
  walking_same = at.same ∙ sym at.began

  pub walking_end : {end : ℕ} → end ≡ row_end J ledger → end ≤ point → marks ≡ marked J ledger (points_of J start ledger) before
  unfolding marked
  walking_end ends h =
      let past : row_end J ledger ≤ point = omega arith in
      sym (at.whole ∙ rw (points_past J (row_end J ledger) point at.fuel past))

-- the counting to one of the points stops at the line
unfoldable pub reached : ℕ → List ℕ → ℕ → List ℕ → Bool
reached J ledger line [] = false
reached J ledger line (point ∷ later) = pick (eqb line (stop_at J ledger point)) true (reached J ledger line later)

marked_length : (J : ℕ) (ledger points marks : List ℕ) → length (marked J ledger points marks) ≡ length marks
unfolding marked
marked_length J ledger [] marks = refl
marked_length J ledger (p ∷ ps) marks = marked_length J ledger ps (set marks (stop_at J ledger p) 1) ∙ length-set marks (stop_at J ledger p) 1

always_one : (b : Bool) → ◌≡◌ {A = ℕ} (pick b 1 1) 1
always_one true = refl
always_one false = refl

-- one point more: 1 where it stops at the line, and else what the others leave
one_point : (marks : List ℕ) (line stop : ℕ) → line < length marks → (b r : Bool) → eqb line stop ≡ b → pick r 1 (get_or (set marks stop 1) line 0) ≡ pick (pick b true r) 1 (get_or marks line 0)
one_point marks line stop h true r e =
    let same : line ≡ stop = eqb-true line stop e in
    let here : get_or (set marks stop 1) line 0 ≡ 1 = rw (← same) (get_or-set_same marks line 1 0 h) in
    rw here (always_one r)
one_point marks line stop h false r e = rw (get_or-set_other marks stop line 1 0 (eqb-false line stop e))

marked_at : (J : ℕ) (ledger points marks : List ℕ) (line : ℕ) → line < length marks → get_or (marked J ledger points marks) line 0 ≡ pick (reached J ledger line points) 1 (get_or marks line 0)
unfolding marked reached
marked_at J ledger [] marks line h = refl
marked_at J ledger (p ∷ ps) marks line h =
    let stop : ℕ = stop_at J ledger p in
    marked_at J ledger ps (set marks stop 1) line (omega (arith, length-set marks stop 1)) ∙ one_point marks line stop h (eqb line stop) (reached J ledger line ps) refl

full_at : (J : ℕ) (ledger : List ℕ) (line : ℕ) → line < length ledger → get_or (full_marks J ledger) line 0 ≡ full_mark J (get_or ledger line 0)
unfolding full_marks
full_at J [] line h = absurd (not-suc-le-zero h)
full_at J (v ∷ l) zero h = refl
full_at J (v ∷ l) (suc line) h = full_at J l line (le_of_suc-le-suc h)

full_length : (J : ℕ) (ledger : List ℕ) → length (full_marks J ledger) ≡ length ledger
unfolding full_marks
full_length J ledger = length-map ledger (full_mark J)

-- the marks of the walk: as many as lines, and 1 where the counting to some point stops
module _ (J start : ℕ) (ledger : List ℕ) where
  pub board_length : length (board_marks J start ledger) ≡ length ledger
  unfolding board_marks
  board_length = marked_length J ledger (points_of J start ledger) (full_marks J ledger) ∙ full_length J ledger

  pub board_mark : (line : ℕ) → line < length ledger →
      get_or (board_marks J start ledger) line 0 ≡ pick (reached J ledger line (points_of J start ledger)) 1 (full_mark J (get_or ledger line 0))
  unfolding board_marks
  board_mark line h =
      marked_at J ledger (points_of J start ledger) (full_marks J ledger) line (omega (arith, full_length J ledger))
      ∙ ap (pick (reached J ledger line (points_of J start ledger)) 1) (full_at J ledger line h)
