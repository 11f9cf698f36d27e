-- The own bits of one mark: what is written is read back, writing what is there changes nothing, and every other bit stays. They are the bits that
-- the document names. Assumes nothing.
use Prim.Native.Nat.{ℕ, zero, suc, ◌+◌, ◌*◌, ◌/◌, ◌%◌, ◌^◌, ◌<◌}
use native.Mathlib.Nat.{pow-succ', div-div-eq-div-mul}
use native.Mathlib.Omega.{arith}
use mathlib.Core.Path.{◌≡◌, refl, sym, ap, ◌∙◌}
use mathlib.Core.Bool.{false}
use Rattle.bits.specs.declared.Bits.{Bits}
use Rattle.bits.specs.declared.Bits.TheVariants.{All, Low, High}
use Rattle.bits.specs.Own.{own_of, with_own, bit, owns}

-- a mark without a bit has no own bits
pub own_none : (bits : Bits) → own_of bits 0 ≡ 0
own_none All = refl
own_none Low = refl
own_none High = refl

-- what is written is read back
pub own_written : (bits : Bits) (mark new : ℕ) → new < 4 → own_of bits (with_own bits mark new) ≡ new
own_written All mark new h = refl
own_written Low mark new h = omega arith
own_written High mark new h = omega arith

-- writing what is there changes nothing
pub own_again : (bits : Bits) (mark : ℕ) → with_own bits mark (own_of bits mark) ≡ mark
own_again All mark = refl
own_again Low mark = omega arith
own_again High mark = omega arith

-- two teams write in either order
pub own_either : (mark low high : ℕ) → low < 4 → high < 4 → with_own High (with_own Low mark low) high ≡ with_own Low (with_own High mark high) low
own_either mark low high l h = omega arith

-- a team's own bits hold the two bits that the document gives it
pub low_bits : (mark : ℕ) → own_of Low mark ≡ bit 0 mark + 2 * bit 1 mark
low_bits mark = omega arith

pub high_bits : (mark : ℕ) → own_of High mark ≡ bit 2 mark + 2 * bit 3 mark
high_bits mark = omega arith

-- the bits above the lowest are those of half the mark
bit_half : (k mark : ℕ) → bit (suc k) mark ≡ bit k (mark / 2)
bit_half k mark = ap (λ (x : ℕ). mark / x % 2) (pow-succ' 2 k) ∙ ap (λ (x : ℕ). x % 2) (sym (div-div-eq-div-mul mark 2 (2 ^ k)))

upper_bits : (a b : ℕ) → a / 16 ≡ b / 16 → (k : ℕ) → bit (suc (suc (suc (suc k)))) a ≡ bit (suc (suc (suc (suc k)))) b
upper_bits a b e k = half a ∙ ap (bit k) same ∙ sym (half b)
  where
    half : (mark : ℕ) → bit (suc (suc (suc (suc k)))) mark ≡ bit k (mark / 2 / 2 / 2 / 2)
    half mark = bit_half (suc (suc (suc k))) mark ∙ bit_half (suc (suc k)) (mark / 2) ∙ bit_half (suc k) (mark / 2 / 2) ∙ bit_half k (mark / 2 / 2 / 2)

    same : a / 2 / 2 / 2 / 2 ≡ b / 2 / 2 / 2 / 2
    same = omega (arith, e)

-- every other bit stays
pub bit_stays : (bits : Bits) (mark new : ℕ) → new < 4 → (k : ℕ) → owns bits k ≡ false → bit k (with_own bits mark new) ≡ bit k mark
bit_stays All mark new h k e = let z : ◌≡◌ {A = ℕ} 0 1 = cc in absurd (omega arith)
bit_stays Low mark new h zero e = let z : ◌≡◌ {A = ℕ} 0 1 = cc in absurd (omega arith)
bit_stays Low mark new h (suc zero) e = let z : ◌≡◌ {A = ℕ} 0 1 = cc in absurd (omega arith)
bit_stays Low mark new h (suc (suc zero)) e = omega arith
bit_stays Low mark new h (suc (suc (suc zero))) e = omega arith
bit_stays Low mark new h (suc (suc (suc (suc k)))) e = upper_bits (with_own Low mark new) mark (omega arith) k
bit_stays High mark new h zero e = omega arith
bit_stays High mark new h (suc zero) e = omega arith
bit_stays High mark new h (suc (suc zero)) e = let z : ◌≡◌ {A = ℕ} 0 1 = cc in absurd (omega arith)
bit_stays High mark new h (suc (suc (suc zero))) e = let z : ◌≡◌ {A = ℕ} 0 1 = cc in absurd (omega arith)
bit_stays High mark new h (suc (suc (suc (suc k)))) e = upper_bits (with_own High mark new) mark (omega arith) k
