-- Counting lines off: where it stops, that a later point stops no earlier, and the loops that count. Assumes nothing.
use Prim.Native.Nat.{ℕ, suc, ◌+◌, ◌≤◌, ◌<◌, zero-le}
use native.Mathlib.Nat.{add-zero, not-suc-le-zero, le_of_suc-le-suc}
use native.Mathlib.Omega.{arith}
use native.Mathlib.Numerals.{add-one}
use mathlib.Core.Path.{◌≡◌, refl, sym, ap, ◌∙◌}
use mathlib.Core.Bool.{true, false}
use mathlib.Core.List.{List, [], ◌∷◌}
use mathlib.Core.Logic.{⊎_elim}
use borrow.Author.Tests.{ltb-true, ltb-false, lt-ltb, le-ltb}
use lib.Dec.{ltb}
use lib.ListN.{length, get_or, drop, drop_of_length-le}
use lib.Seq.{drop-cons}
use Rattle.terms.specs.Numbers.{sum}
use Rattle.terms.proofs.Tests.{by_test, le_or_lt}
use Rattle.blackboard.specs.Board.{counts_for, row_end, count_on, stop_at}

-- a line counts for no more than its value and no more than J
module _ (J v : ℕ) where
  counts_value : counts_for J v ≤ v
  counts_value = by_test (λ c. c ≤ v) (ltb J v) (λ t. zero-le) (λ t. omega arith)

  counts_interval : counts_for J v ≤ J
  counts_interval = by_test (λ c. c ≤ J) (ltb J v) (λ t. zero-le) (λ t. ltb-false J v t)

  -- one that counts for something is not full
  pub counts_some : 0 < counts_for J v → (0 < v) × (v ≤ J)
  counts_some = by_test (λ c. 0 < c → (0 < v) × (v ≤ J)) (ltb J v) (λ t h. absurd (not-suc-le-zero h)) (λ t h. (h, ltb-false J v t))

-- the row is no longer than the ledger's total
pub end_total : (J : ℕ) (ledger : List ℕ) → row_end J ledger ≤ sum ledger
unfolding row_end
end_total J [] = zero-le
end_total J (v ∷ l) = omega (arith, counts_value J v, end_total J l)

-- without an interval it is empty
end_none : (ledger : List ℕ) → row_end 0 ledger ≡ 0
unfolding row_end
end_none [] = refl
end_none (v ∷ l) = omega (arith, counts_interval 0 v, end_none l)

pub some_interval : (J point : ℕ) (ledger : List ℕ) → point < row_end J ledger → 0 < J
some_interval J point ledger h =
    ⊎_elim
    (λ (z : J ≤ 0). let none : J ≡ 0 = omega arith in
    let e : row_end J ledger ≡ 0 = ap (λ (j : ℕ). row_end j ledger) none ∙ end_none ledger in
    absurd (omega arith))
    (λ some. some) (le_or_lt J 0)

-- the counting to a point before the row's end stops at a line
pub stop_inside : (J p c : ℕ) (l : List ℕ) → c ≤ p → p < c + row_end J l → count_on J p c l < length l
unfolding count_on row_end
stop_inside J p c [] h r = absurd (omega arith)
stop_inside J p c (v ∷ l) h r =
    by_test (λ k. k < suc (length l)) (ltb p (c + counts_for J v)) (λ t. omega arith)
    (λ t. let past = ltb-false p (c + counts_for J v) t in omega (arith, stop_inside J p (c + counts_for J v) l past (omega arith)))

-- and to no other
pub stop_before : (J p c : ℕ) (l : List ℕ) → c ≤ p → count_on J p c l < length l → p < c + row_end J l
unfolding count_on row_end
stop_before J p c [] h = λ r. absurd (not-suc-le-zero r)
stop_before J p c (v ∷ l) h =
    by_test (λ k. k < suc (length l) → p < c + (counts_for J v + row_end J l)) (ltb p (c + counts_for J v))
    (λ t r. let here = ltb-true p (c + counts_for J v) t in omega arith)
    (λ t r. let past = ltb-false p (c + counts_for J v) t in omega (arith, stop_before J p (c + counts_for J v) l past (le_of_suc-le-suc r)))

-- the line at which it stops counts for something
pub stop_counts : (J p c : ℕ) (l : List ℕ) → c ≤ p → count_on J p c l < length l → 0 < counts_for J (get_or l (count_on J p c l) 0)
unfolding count_on
stop_counts J p c [] h = λ r. absurd (not-suc-le-zero r)
stop_counts J p c (v ∷ l) h =
    by_test (λ k. k < suc (length l) → 0 < counts_for J (get_or (v ∷ l) k 0)) (ltb p (c + counts_for J v))
    (λ t r. let here = ltb-true p (c + counts_for J v) t in omega arith)
    (λ t r. stop_counts J p (c + counts_for J v) l (ltb-false p (c + counts_for J v) t) (le_of_suc-le-suc r))

-- a later point stops no earlier
pub stop_rises : (J p q c : ℕ) (l : List ℕ) → p ≤ q → count_on J p c l ≤ count_on J q c l
unfolding count_on
stop_rises J p q c [] h = zero-le
stop_rises J p q c (v ∷ l) h =
    by_test (λ k. k ≤ count_on J q c (v ∷ l)) (ltb p (c + counts_for J v)) (λ t. zero-le)
    (λ t. let past = ltb-false p (c + counts_for J v) t in
    rw (le-ltb q (c + counts_for J v) (omega arith)) (omega (arith, stop_rises J p q (c + counts_for J v) l h)))

-- and one that is J later stops at a later line: no line counts for more than J
pub stop_later : (J p c : ℕ) (l : List ℕ) → c ≤ p → count_on J p c l < length l → count_on J p c l < count_on J (p + J) c l
unfolding count_on
stop_later J p c [] h = λ r. absurd (not-suc-le-zero r)
stop_later J p c (v ∷ l) h =
    let beyond : c + counts_for J v ≤ p + J = omega (arith, counts_interval J v) in
    rw (le-ltb (p + J) (c + counts_for J v) beyond)
    (by_test (λ k. k < suc (length l) → k < suc (count_on J (p + J) (c + counts_for J v) l)) (ltb p (c + counts_for J v)) (λ t r. omega arith)
    (λ t r. omega (arith, stop_later J p (c + counts_for J v) l (ltb-false p (c + counts_for J v) t) (le_of_suc-le-suc r))))

-- the loop that counts all lines off: so many cents are counted before a line
pub record Counting (J : ℕ) (ledger : List ℕ) (line counted : ℕ) : Type 0 where
  pub inside : line ≤ length ledger
  pub rest : counted + row_end J (drop line ledger) ≡ row_end J ledger

pub counting_none : (J : ℕ) (ledger : List ℕ) → Counting J ledger 0 0
counting_none J ledger = record { inside = zero-le; rest = omega arith }

module _ {J : ℕ} {ledger : List ℕ} {line counted : ℕ} (at : Counting J ledger line counted) where
  module _ (more : line < length ledger) {cents : ℕ} (own : cents ≡ counts_for J (get_or ledger line 0)) where
    rest_on : row_end J (drop line ledger) ≡ counts_for J (get_or ledger line 0) + row_end J (drop (line + 1) ledger)
    unfolding row_end
    rest_on = rw (drop-cons ledger line 0 more, add-one)

    pub counting_on : Counting J ledger (line + 1) (counted + cents)
    counting_on = record { inside = omega arith; rest = omega (arith, at.rest, rest_on) }

    pub counting_room : counted + cents ≤ sum ledger
    counting_room = omega (arith, at.rest, rest_on, end_total J ledger)

  pub counting_end : length ledger ≤ line → counted ≡ row_end J ledger
  unfolding row_end
  counting_end h = let e = rw (drop_of_length-le ledger h) at at.rest in omega (arith, e)

-- the loop that counts off to a point: no line before this one covers it
pub record CountingTo (J : ℕ) (ledger : List ℕ) (point line counted : ℕ) : Type 0 where
  pub at : Counting J ledger line counted
  pub stops : stop_at J ledger point ≡ line + count_on J point counted (drop line ledger)

pub to_none : (J : ℕ) (ledger : List ℕ) (point : ℕ) → CountingTo J ledger point 0 0
to_none J ledger point = record { at = counting_none J ledger; stops = omega arith }

module _ {J : ℕ} {ledger : List ℕ} {point line counted : ℕ} (by : CountingTo J ledger point line counted) where
  module _ (more : line < length ledger) {cents : ℕ} (own : cents ≡ counts_for J (get_or ledger line 0)) where
    pub to_here : point < counted + cents → line ≡ stop_at J ledger point
    unfolding count_on
    to_here h =
        let v : ℕ = get_or ledger line 0 in
        let t : ltb point (counted + counts_for J v) ≡ true = lt-ltb point (counted + counts_for J v) (omega arith) in
        sym (by.stops ∙ rw (drop-cons ledger line 0 more, t) (add-zero line))

    pub to_further : counted + cents ≤ point → CountingTo J ledger point (line + 1) (counted + cents)
    unfolding count_on
    to_further h =
        let v : ℕ = get_or ledger line 0 in
        let t : ltb point (counted + counts_for J v) ≡ false = le-ltb point (counted + counts_for J v) (omega arith) in
        record {
          at = counting_on by.at more own;
          stops = by.stops ∙ rw (drop-cons ledger line 0 more, t, own, add-one) (omega arith);
        }

  pub to_end : length ledger ≤ line → line ≡ stop_at J ledger point
  unfolding count_on
  to_end h = sym (by.stops ∙ rw (drop_of_length-le ledger h) (add-zero line))
