-- Writing a number and reading it back, both ways. Assumes nothing.
use Prim.Native.Nat.{ℕ, zero, suc, ◌+◌, ◌*◌, ◌/◌, ◌%◌, ◌^◌, ◌<◌, ◌≤◌}
use mathlib.Core.Path.{◌≡◌, refl, ap}
use mathlib.Core.List.{List, [], ◌∷◌, ◌++◌}
use native.Mathlib.Omega.{arith}
use lib.ListN.{length, take, drop}
use lib.Seq.{get_or-drop}
use Rattle.workfile.specs.Numbers.{little_endian, bytes, Bytes}

pub length_bytes : (n x : ℕ) → length (bytes n x) ≡ n
length_bytes zero x = refl
length_bytes (suc n) x = ap suc (length_bytes n (x / 256))

pub number_again : (n x : ℕ) (rest : List ℕ) → x < 256 ^ n → little_endian n (bytes n x ++ rest) ≡ x
unfolding little_endian
number_again zero x rest h = omega arith
number_again (suc n) x rest h = rw (number_again n (x / 256) rest (omega arith)) (omega arith)

pub bytes_again : (n : ℕ) (bs : List ℕ) → Bytes bs → n ≤ length bs → bytes n (little_endian n bs) ≡ take n bs
unfolding little_endian
bytes_again zero bs b h = refl
bytes_again (suc n) [] b h = absurd (omega arith)
bytes_again (suc n) (x ∷ bs) b h =
    let low : (x + 256 * little_endian n bs) % 256 ≡ x = omega (arith, b 0) in
    let high : (x + 256 * little_endian n bs) / 256 ≡ little_endian n bs = omega (arith, b 0) in
    rw (low, high, bytes_again n bs (λ i. b (suc i)) (omega arith))

-- a number of bytes fits them
pub number_below : (n : ℕ) (bs : List ℕ) → Bytes bs → little_endian n bs < 256 ^ n
unfolding little_endian
number_below zero bs b = omega arith
number_below (suc n) bs b = omega (arith, b 0, number_below n (drop 1 bs) (λ i. rw get_or-drop (b (1 + i))))

-- a number is that of the bytes it takes
pub number_of_front : (n m : ℕ) (bs : List ℕ) → n ≤ m → little_endian n (take m bs) ≡ little_endian n bs
unfolding little_endian
number_of_front zero m bs h = refl
number_of_front (suc n) zero bs h = absurd (omega arith)
number_of_front (suc n) (suc m) [] h = refl
number_of_front (suc n) (suc m) (x ∷ bs) h = ap (λ (y : ℕ). x + 256 * y) (number_of_front n m bs (omega arith))
