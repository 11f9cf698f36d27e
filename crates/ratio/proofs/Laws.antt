-- What the comparison of shares gives: an order in which no share is above itself. Assumes nothing.
use mathlib.Core.Path.{◌≡◌, sym, ap, ◌∙◌}
use mathlib.Core.Bool.{true, false}
use Prim.Native.Nat.{ℕ, ◌*◌, ◌≤◌, ◌<◌}
use native.Mathlib.Nat.{mul_comm, mul_assoc, mul-le-mul_right, mul-lt-mul_of_pos_right, lt_of_mul-lt-mul_right}
use native.Mathlib.Omega.{arith}
use borrow.Author.Tests.{lt-ltb, le-ltb, ltb-true, ltb-false}
use Rattle.ratio.specs.Ratio.{exceeds}

-- the comparison as a fact of the products
pub above : (a b c d : ℕ) → exceeds a b c d ≡ true → c * b < a * d
unfolding exceeds
above a b c d e = ltb-true (c * b) (a * d) e

pub not_above : (a b c d : ℕ) → exceeds a b c d ≡ false → a * d ≤ c * b
unfolding exceeds
not_above a b c d e = ltb-false (c * b) (a * d) e

pub never_itself : (a b : ℕ) → exceeds a b a b ≡ false
unfolding exceeds
never_itself a b = le-ltb (a * b) (a * b) (omega arith)

-- of two shares one at most is above the other
pub one_way : (a b c d : ℕ) → exceeds a b c d ≡ true → exceeds c d a b ≡ false
unfolding exceeds
one_way a b c d e = le-ltb (a * d) (c * b) (let h = above a b c d e in omega arith)

-- a share above one that x / y is not above is above x / y
pub climbs : (a b c d x y : ℕ) → 0 < d → 0 < y → exceeds a b c d ≡ true → exceeds x y c d ≡ false → exceeds a b x y ≡ true
unfolding exceeds
climbs a b c d x y some_d some-y e f =
    -- x * d ≤ c * y and c * b < a * d, so x * b * d ≤ c * y * b < a * d * y
    let low : x * d * b ≤ c * y * b = mul-le-mul_right b (not_above x y c d f) in
    let high : c * b * y < a * d * y = mul-lt-mul_of_pos_right (above a b c d e) some-y in
    let x_is : x * d * b ≡ x * b * d = mul_assoc x d b ∙ ap (λ (n : ℕ). x * n) (mul_comm d b) ∙ sym (mul_assoc x b d) in
    let c_is : c * y * b ≡ c * b * y = mul_assoc c y b ∙ ap (λ (n : ℕ). c * n) (mul_comm y b) ∙ sym (mul_assoc c b y) in
    let a_is : a * d * y ≡ a * y * d = mul_assoc a d y ∙ ap (λ (n : ℕ). a * n) (mul_comm d y) ∙ sym (mul_assoc a y d) in
    lt-ltb (x * b) (a * y) (lt_of_mul-lt-mul_right d (omega arith))
