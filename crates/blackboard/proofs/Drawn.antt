-- How many marks are 1, as the loop counts them. Assumes nothing.
use Prim.Native.Nat.{ℕ, ◌+◌, ◌≤◌, ◌<◌, zero-le}
use native.Mathlib.Omega.{arith}
use native.Mathlib.Numerals.{add-one}
use mathlib.Core.Path.{◌≡◌, ap}
use mathlib.Core.Bool.{Bool}
use mathlib.Core.List.{List}
use borrow.Author.Tests.{eq-eqb, ne_eqb}
use lib.Dec.{eqb}
use lib.ListN.{length, get_or, drop, drop_of_length-le}
use lib.Seq.{drop-cons}
use Rattle.terms.specs.Numbers.{pick}
use Rattle.blackboard.specs.Board.{drawn_lines}

pub record DrawnSoFar (marks : List ℕ) (drawn line : ℕ) : Type 0 where
  pub inside : line ≤ length marks
  pub few : drawn ≤ line
  pub rest : drawn + drawn_lines (drop line marks) ≡ drawn_lines marks

pub drawn_none : (marks : List ℕ) → DrawnSoFar marks 0 0
drawn_none marks = record { inside = zero-le; few = zero-le; rest = omega arith }

module _ {marks : List ℕ} {drawn line : ℕ} (by : DrawnSoFar marks drawn line) where
  module _ (more : line < length marks) where
    on : drawn_lines (drop line marks) ≡ pick (eqb (get_or marks line 0) 1) 1 0 + drawn_lines (drop (line + 1) marks)
    unfolding drawn_lines
    on = rw (drop-cons marks line 0 more, add-one)

    pub drawn_one : get_or marks line 0 ≡ 1 → {drawn' : ℕ} → drawn' ≡ drawn + 1 → DrawnSoFar marks drawn' (line + 1)
    drawn_one e d =
        record { inside = omega arith; few = omega (arith, by.few); rest = omega (arith, by.rest, on, ap (λ (b : Bool). pick {A = ℕ} b 1 0) (eq-eqb (get_or marks line 0) 1 e)) }

    pub drawn_other : (get_or marks line 0 ≡ 1 → ⊥) → {drawn' : ℕ} → drawn' ≡ drawn → DrawnSoFar marks drawn' (line + 1)
    drawn_other e d =
        record { inside = omega arith; few = omega (arith, by.few); rest = omega (arith, by.rest, on, ap (λ (b : Bool). pick {A = ℕ} b 1 0) (ne_eqb (get_or marks line 0) 1 e)) }

  pub drawn_end : length marks ≤ line → drawn ≡ drawn_lines marks
  unfolding drawn_lines
  drawn_end h = let e = rw (drop_of_length-le marks h) at by.rest in omega (arith, e)
