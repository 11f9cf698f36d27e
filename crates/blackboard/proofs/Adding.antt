-- The lines added up by their marks: that there is room for each, and the loop over the lines. Assumes nothing.
use Prim.Native.Nat.{ℕ, suc, ◌+◌, ◌^◌, ◌≤◌, ◌<◌, zero-le}
use native.Mathlib.Nat.{add-zero}
use native.Mathlib.Omega.{arith}
use native.Mathlib.Numerals.{add-one}
use mathlib.Core.Path.{◌≡◌, refl, sym, ap, subst, ◌∙◌}
use mathlib.Core.Bool.{Bool, true, false}
use mathlib.Core.List.{List}
use borrow.Author.Tests.{ltb-false, eqb-true}
use lib.Dec.{ltb, eqb}
use lib.IntN.{ℤ, pos}
use lib.Signed.{mag}
use lib.ListN.{length, get_or, drop, drop_of_length-le}
use lib.Seq.{drop-cons, get_or-drop, drop-drop}
use Rattle.terms.specs.declared.Refusal.{Refusal}
use Rattle.terms.specs.Outcome.{Outcome, accepted, refused_by, after}
use Rattle.terms.specs.Numbers.{pick, sum}
use Rattle.terms.proofs.Outcomes.{never}
use Rattle.terms.proofs.Tests.{by_test}
use Rattle.signed.specs.Errors.{overstated, understated, size_of, most_size}
use Rattle.signed.proofs.Laws.{size_adds}
use Rattle.signed.proofs.Signs.{held, kept}
use Rattle.blackboard.specs.declared.{BoardSums.BoardSums, BoardKinds.BoardKinds, BoardProjection.BoardProjection, Walker.Walker}
use Rattle.blackboard.specs.Board.{board_marks}
use Rattle.blackboard.specs.Project.{with_line, both_with, line_added, added_from, no_sums, no_kinds, board_projection_of, board_projection_at}
use Rattle.blackboard.specs.Steps.{ToAdd, mark_where, walker_at, walker_after, SumRoom, KindsRoom, SmallSums}
use Rattle.blackboard.proofs.Standing.{Standing, standing_first, standing_mark, standing_drawn, standing_on, point_on}
use Rattle.blackboard.proofs.OneLine.{amount_most}

-- what a line gives at most
record Given (J : ℕ) (sums : BoardSums) (mark v : ℕ) (more : BoardSums) : Type 0 where
  pub full : more.full ≤ sums.full + v
  pub sampled : more.sampled ≤ sums.sampled + pick (eqb mark 1) J 0
  pub m : more.m ≤ sums.m + 1

one_most : (b : Bool) → pick b 1 0 ≤ 1
one_most true = omega arith
one_most false = zero-le

given_by : (J : ℕ) (sums : BoardSums) (mark v e : ℕ) → (mark ≡ 1 → 0 < v) → e ≤ v → (one : Bool) → eqb mark 1 ≡ one → Given J sums mark v (with_line J sums mark v e)
given_by J sums mark v e some small one is =
    by_test (λ (s : BoardSums). Given J sums mark v s) (eqb mark 2)
    (λ t. record { full = omega arith; sampled = omega arith; m = omega arith })
    (λ t. by_test (λ (s : BoardSums). Given J sums mark v s) (eqb mark 1)
    (λ z. let more : pick (eqb mark 1) J 0 ≡ J = rw z in
    record { full = omega arith; sampled = omega (arith, amount_most J v e (some (eqb-true mark 1 z)) small); m = omega (arith, one_most (ltb 0 e)) })
    (λ z. record { full = omega arith; sampled = omega arith; m = omega arith }))

-- where a line is added, its error is within its value
record LineIn (J : ℕ) (kinds : BoardKinds) (mark v : ℕ) (e : ℤ) (more : BoardKinds) : Type 0 where
  pub is : more ≡ both_with J kinds mark v e
  pub small : size_of e ≤ v

line_in : (J item : ℕ) (kinds : BoardKinds) (mark v : ℕ) (e : ℤ) (more : BoardKinds) → line_added J item kinds mark v e ≡ accepted more → LineIn J kinds mark v e more
unfolding line_added
line_in J item kinds mark v e more =
    by_test (λ o. o ≡ accepted more → LineIn J kinds mark v e more) (ltb v (size_of e)) (λ t h. never h)
    (λ t. by_test (λ o. o ≡ accepted more → LineIn J kinds mark v e more) (pick (eqb mark 0) (ltb 0 (size_of e)) false) (λ q h. never h)
    (λ q h. let same : more ≡ both_with J kinds mark v e = cc in record { is = same; small = ltb-false v (size_of e) t }))

-- the sums of one kind before a line leave room for the lines to come: each amount is at most J, and the point has moved by J for it
pub record KindSoFar (ledger : List ℕ) (sums : BoardSums) (point line : ℕ) : Type 0 where
  pub full : sums.full + sum (drop line ledger) ≤ sum ledger
  pub sampled : sums.sampled ≤ point
  pub m : sums.m ≤ line

-- the whole follows from the sums so far and the lines to come, and the walk stands beside them
pub record Adding (J start : ℕ) (ledger : List ℕ) (errors : List ℤ) (kinds : BoardKinds) (at : Walker) (line : ℕ) : Type 0 where
  pub given : ToAdd J start ledger errors
  pub inside : line ≤ length ledger
  pub whole : board_projection_at J start ledger errors
      ≡ after (λ ended. accepted (board_projection_of ended.over ended.under)) (added_from J line kinds (drop line ledger) (drop line (board_marks J start ledger)) (drop line errors))
  pub over : KindSoFar ledger kinds.over at.point line
  pub under : KindSoFar ledger kinds.under at.point line
  pub stands : Standing J start ledger line at

none_so_far : (ledger : List ℕ) (point : ℕ) → KindSoFar ledger no_sums point 0
none_so_far ledger point = record { full = omega arith; sampled = zero-le; m = zero-le }

pub adding_none : {J start : ℕ} {ledger : List ℕ} {errors : List ℤ} {at : Walker} → ToAdd J start ledger errors → at ≡ walker_at J ledger start →
    Adding J start ledger errors no_kinds at 0
unfolding board_projection_at
adding_none {J} {start} {ledger} {errors} {at} given e =
    record {
      given = given;
      inside = zero-le;
      whole = refl;
      over = none_so_far ledger at.point;
      under = none_so_far ledger at.point;
      stands = standing_first J start ledger at given.board given.early e;
    }

module _ {J start : ℕ} {ledger : List ℕ} {errors : List ℤ} {kinds : BoardKinds} {at : Walker} {line : ℕ} (by : Adding J start ledger errors kinds at line) where
  small_sums : {sums : BoardSums} → KindSoFar ledger sums at.point line → SmallSums sums
  unfolding most_size
  small_sums k = record { small = omega (arith, k.full, k.sampled, by.stands.near, by.given.board.summed) }

  pub adding_small : SmallSums kinds.over × SmallSums kinds.under
  adding_small = (small_sums by.over, small_sums by.under)

  pub adding_end : length ledger ≤ line → {p : BoardProjection} → p ≡ board_projection_of kinds.over kinds.under → accepted p ≡ board_projection_at J start ledger errors
  unfolding added_from
  adding_end h is = ap accepted is ∙ sym (by.whole ∙ rw (drop_of_length-le ledger h))

  module _ (more : line < length ledger) {mark : ℕ} (marked : mark ≡ mark_where J (get_or ledger line 0) line at.stop) where
    abbrev value : ℕ
    value = get_or ledger line 0

    abbrev error : ℤ
    error = get_or errors line (pos 0)

    tail : sum (drop line ledger) ≡ value + sum (drop (line + 1) ledger)
    tail = rw (drop-cons ledger line 0 more, add-one)

    drawn_some : mark ≡ 1 → (0 < value) × (value ≤ J)
    drawn_some e = standing_drawn J start ledger line at by.stands more (sym marked ∙ e)

    sums_room : {sums : BoardSums} → KindSoFar ledger sums at.point line → SumRoom J sums mark value
    sums_room k =
        record {
          narrow = by.given.board.narrow;
          full = omega (arith, k.full, tail, by.given.board.summed);
          sampled = omega (arith, k.sampled, by.stands.near, by.given.board.narrow);
          m = omega (arith, k.m, by.given.few);
          some = drawn_some;
        }

    pub adding_room : KindsRoom J kinds mark value
    adding_room = record { over = sums_room by.over; under = sums_room by.under }

    -- this line, and those after it
    on : board_projection_at J start ledger errors
        ≡ after (λ ended. accepted (board_projection_of ended.over ended.under))
        (after (λ next. added_from J (suc line) next (drop (suc line) ledger) (drop (suc line) (board_marks J start ledger)) (drop (suc line) errors)) (line_added J line kinds mark value error))
    unfolding added_from
    on =
        let m : get_or (board_marks J start ledger) line 0 ≡ mark = standing_mark J start ledger line at by.stands more ∙ sym marked in
        by.whole
        ∙ rw (drop-cons ledger line 0 more, get_or-drop line (board_marks J start ledger) 0 0, get_or-drop line errors 0 (pos 0), drop-drop 1 line (board_marks J start ledger), drop-drop 1 line errors, add-zero, add-one, m)

    kind_on : {sums next : BoardSums} {point : ℕ} → KindSoFar ledger sums at.point line → Given J sums mark value next → at.point + pick (eqb mark 1) J 0 ≤ point → KindSoFar ledger next point (line + 1)
    kind_on k g h = record { full = omega (arith, g.full, k.full, tail); sampled = omega (arith, g.sampled, k.sampled); m = omega (arith, g.m, k.m) }

    -- the error is read from its bits
    module _ (fits : mag error < 2 ^ 63) where
      own : {o : Outcome BoardKinds} → o ≡ line_added J line kinds mark value (held error) → o ≡ line_added J line kinds mark value error
      own promised = promised ∙ ap (line_added J line kinds mark value) (kept error fits)

      pub adding_refused : (why : Refusal) → refused_by why ≡ line_added J line kinds mark value (held error) → refused_by why ≡ board_projection_at J start ledger errors
      adding_refused why promised = sym (on ∙ rw (← own promised))

      pub adding_on : {next : BoardKinds} {at' : Walker} → accepted next ≡ line_added J line kinds mark value (held error) → at' ≡ walker_after J ledger at line → Adding J start ledger errors next at' (line + 1)
      adding_on {next} {at'} promised went =
          let e : accepted next ≡ line_added J line kinds mark value error = own promised in
          let l = line_in J line kinds mark value error next (sym e) in
          let moved : at.point + pick (eqb mark 1) J 0 ≤ at'.point = rw (went, marked) (point_on J value ledger at line) in
          let over_small : overstated error ≤ value = omega (arith, size_adds error, l.small) in
          let under_small : understated error ≤ value = omega (arith, size_adds error, l.small) in
          let some : mark ≡ 1 → 0 < value = λ z. (drawn_some z).0 in
          let over = given_by J kinds.over mark value (overstated error) some over_small (eqb mark 1) refl in
          let under = given_by J kinds.under mark value (understated error) some under_small (eqb mark 1) refl in
          record {
            given = by.given;
            inside = omega arith;
            whole = rw add-one (on ∙ rw (← e));
            over = kind_on by.over (subst (Given J kinds.over mark value) (ap (λ (k : BoardKinds). k.over) (sym l.is)) over) moved;
            under = kind_on by.under (subst (Given J kinds.under mark value) (ap (λ (k : BoardKinds). k.under) (sym l.is)) under) moved;
            stands = rw went (standing_on J start ledger line at by.stands more by.given.board);
          }
