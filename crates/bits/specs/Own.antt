-- The own bits of a mark: what they hold as a number, and a mark with new ones; of each mark of a list too. Definitions: nothing is assumed.
use Rattle.std.specs.Prelude.{ℕ, ◌+◌, ◌*◌, ◌/◌, ◌%◌, ◌^◌, Bool, true, false, List, [], ◌∷◌, map, leb, ltb}
use Rattle.terms.specs.Numbers.{pick}
use Rattle.bits.specs.declared.Bits.{Bits}

-- all eight bits, bits 0 and 1, or bits 2 and 3
abbrev pub own_of : Bits → ℕ → ℕ
own_of Bits.All mark = mark
own_of Bits.Low mark = mark % 4
own_of Bits.High mark = mark / 4 % 4

abbrev pub with_own : Bits → ℕ → ℕ → ℕ
with_own Bits.All mark new = new
with_own Bits.Low mark new = mark / 4 * 4 + new
with_own Bits.High mark new = mark / 16 * 16 + new * 4 + mark % 4

-- the own bits of each mark
unfoldable pub bits_of : Bits → List ℕ → List ℕ
bits_of bits marks = map (own_of bits) marks

-- each mark with the new own bits at its place; a mark past the last of them stays
unfoldable pub with_bits : Bits → List ℕ → List ℕ → List ℕ
with_bits bits [] new = []
with_bits bits (mark ∷ marks) [] = mark ∷ marks
with_bits bits (mark ∷ marks) (own ∷ new) = with_own bits mark own ∷ with_bits bits marks new

-- bit k of a mark, counted from the lowest
abbrev pub bit : ℕ → ℕ → ℕ
bit k mark = mark / 2 ^ k % 2

-- bit k is one of the own bits
abbrev pub owns : Bits → ℕ → Bool
owns Bits.All k = true
owns Bits.Low k = ltb k 2
owns Bits.High k = pick (leb 2 k) (ltb k 4) false

-- the bits of two different teams
pub data TwoTeams : Bits → Bits → Type 0 where
  low_high : TwoTeams Bits.Low Bits.High
  high_low : TwoTeams Bits.High Bits.Low
