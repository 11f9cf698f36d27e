-- The own bits of a list of marks: what is written is read back, writing what is there changes nothing, every other bit of every mark stays, and
-- two teams write in either order. Assumes nothing.
use Prim.Native.Nat.{ℕ, zero, suc, ◌≤◌}
use native.Mathlib.Omega.{arith}
use mathlib.Core.Path.{◌≡◌, refl, sym, ap}
use mathlib.Core.Bool.{false}
use mathlib.Core.List.{List, [], ◌∷◌}
use lib.ListN.{length, get_or, length-map}
use Rattle.terms.specs.Numbers.{AllUpTo}
use Rattle.bits.specs.declared.Bits.{Bits}
use Rattle.bits.specs.declared.Bits.TheVariants.{All, Low, High}
use Rattle.bits.specs.Own.{own_of, with_own, bits_of, with_bits, bit, owns, TwoTeams, low_high, high_low}
use Rattle.bits.proofs.Marks.{own_none, own_written, own_again, own_either, bit_stays}

-- all eight bits are the marks themselves
pub bits_all : (marks : List ℕ) → bits_of All marks ≡ marks
unfolding bits_of
bits_all [] = refl
bits_all (mark ∷ marks) = ap (λ (l : List ℕ). mark ∷ l) (bits_all marks)

module _ (bits : Bits) where
  pub bits_length : (marks : List ℕ) → length (bits_of bits marks) ≡ length marks
  unfolding bits_of
  bits_length marks = length-map marks (own_of bits)

  pub bits_at : (marks : List ℕ) (line : ℕ) → get_or (bits_of bits marks) line 0 ≡ own_of bits (get_or marks line 0)
  unfolding bits_of
  bits_at [] line = sym (own_none bits)
  bits_at (mark ∷ marks) zero = refl
  bits_at (mark ∷ marks) (suc line) = bits_at marks line

  pub with_length : (marks new : List ℕ) → length (with_bits bits marks new) ≡ length marks
  unfolding with_bits
  with_length [] new = refl
  with_length (mark ∷ marks) [] = refl
  with_length (mark ∷ marks) (own ∷ new) = ap suc (with_length marks new)

  -- writing what is there changes nothing
  pub with_again : (marks : List ℕ) → with_bits bits marks (bits_of bits marks) ≡ marks
  unfolding bits_of with_bits
  with_again [] = refl
  with_again (mark ∷ marks) = λ i. own_again bits mark i ∷ with_again marks i

  -- what is written is read back
  pub with_read : (marks new : List ℕ) → AllUpTo 3 new → length new ≡ length marks → bits_of bits (with_bits bits marks new) ≡ new
  unfolding bits_of with_bits
  with_read [] [] small same = refl
  with_read [] (own ∷ new) small same = absurd (omega arith)
  with_read (mark ∷ marks) [] small same = absurd (omega arith)
  with_read (mark ∷ marks) (own ∷ new) small same = λ i. own_written bits mark own (omega (arith, small.0)) i ∷ with_read marks new small.1 (omega arith) i

  -- every other bit of every mark stays
  pub with_stays : (marks new : List ℕ) → AllUpTo 3 new → (line k : ℕ) → owns bits k ≡ false → bit k (get_or (with_bits bits marks new) line 0) ≡ bit k (get_or marks line 0)
  unfolding with_bits
  with_stays [] new small line k other = refl
  with_stays (mark ∷ marks) [] small line k other = refl
  with_stays (mark ∷ marks) (own ∷ new) small zero k other = bit_stays bits mark own (omega (arith, small.0)) k other
  with_stays (mark ∷ marks) (own ∷ new) small (suc line) k other = with_stays marks new small.1 line k other

-- a team's bits are at most 3
pub low_small : (marks : List ℕ) → AllUpTo 3 (bits_of Low marks)
unfolding bits_of
low_small [] = tt
low_small (mark ∷ marks) = (omega arith, low_small marks)

pub high_small : (marks : List ℕ) → AllUpTo 3 (bits_of High marks)
unfolding bits_of
high_small [] = tt
high_small (mark ∷ marks) = (omega arith, high_small marks)

-- the other team's bits stay
other_stays : {a b : Bits} → TwoTeams a b → (mark new : ℕ) → new ≤ 3 → own_of b (with_own a mark new) ≡ own_of b mark
other_stays low_high mark new h = omega arith
other_stays high_low mark new h = omega arith

two_either : {a b : Bits} → TwoTeams a b → (mark new later : ℕ) → new ≤ 3 → later ≤ 3 → with_own b (with_own a mark new) later ≡ with_own a (with_own b mark later) new
two_either low_high mark new later h l = own_either mark new later (omega arith) (omega arith)
two_either high_low mark new later h l = sym (own_either mark later new (omega arith) (omega arith))

module _ {a b : Bits} (two : TwoTeams a b) where
  pub with_other : (marks new : List ℕ) → AllUpTo 3 new → bits_of b (with_bits a marks new) ≡ bits_of b marks
  unfolding bits_of with_bits
  with_other [] new small = refl
  with_other (mark ∷ marks) [] small = refl
  with_other (mark ∷ marks) (own ∷ new) small = λ i. other_stays two mark own small.0 i ∷ with_other marks new small.1 i

  -- and the two write in either order
  pub with_either : (marks new later : List ℕ) → AllUpTo 3 new → AllUpTo 3 later → with_bits b (with_bits a marks new) later ≡ with_bits a (with_bits b marks later) new
  unfolding with_bits
  with_either [] new later s t = refl
  with_either (mark ∷ marks) [] [] s t = refl
  with_either (mark ∷ marks) [] (x ∷ later) s t = refl
  with_either (mark ∷ marks) (own ∷ new) [] s t = refl
  with_either (mark ∷ marks) (own ∷ new) (x ∷ later) s t = λ i. two_either two mark own x s.0 t.0 i ∷ with_either marks new later s.1 t.1 i
