-- The cases of `first_from` and of `start_of`, as the loop over the words and the chain of tests meet them. Assumes nothing.
use mathlib.Core.Path.{◌≡◌, refl, sym, ◌∙◌}
use mathlib.Core.List.{List}
use Prim.Native.Nat.{ℕ, ◌+◌, ◌%◌, ◌≤◌, ◌<◌}
use native.Mathlib.Numerals.{add-one}
use native.Mathlib.Omega.{arith}
use lib.ListN.{length, get_or, drop, drop_of_length-le}
use lib.Seq.{drop-cons}
use borrow.Author.Tests.{lt-ltb, le-ltb}
use Rattle.terms.specs.Outcome.{accepted, refused}
use Rattle.start.specs.Start.{first_from}

-- where `first_below` stands: going on from here gives what the whole gives
pub record ReadingWords (J range : ℕ) (l : List ℕ) (i : ℕ) : Type 0 where
  pub inside : i ≤ length l
  pub rest : first_from J range i (drop i l) ≡ first_from J range 0 l

pub first_word : {J range : ℕ} {l : List ℕ} → ReadingWords J range l 0
first_word = record { inside = omega arith; rest = refl }

module _ {J range : ℕ} {l : List ℕ} {i : ℕ} (at : ReadingWords J range l i) where
  pub stops : i < length l → get_or l i 0 % range < J → accepted (record { start = get_or l i 0 % range; words = i + 1 }) ≡ first_from J range 0 l
  unfolding first_from
  stops h k = sym (rw (drop-cons l i 0) (simp (lt-ltb (get_or l i 0 % range) J k, add-one))) ∙ at.rest

  pub passes : i < length l → J ≤ get_or l i 0 % range → ReadingWords J range l (i + 1)
  unfolding first_from
  passes h k = record { inside = omega arith; rest = sym (rw (drop-cons l i 0) (simp (le-ltb (get_or l i 0 % range) J k, add-one))) ∙ at.rest }

  pub ends : length l ≤ i → refused 12 i ≡ first_from J range 0 l
  unfolding first_from
  ends h = sym (rw (drop_of_length-le l h)) ∙ at.rest
