-- The rule as a test whose computation is short: the ways are found by one product after the other. Assumes nothing.
use mathlib.Core.Path.{◌≡◌, refl, ap, ap₂, ◌∙◌, subst}
use mathlib.Core.Bool.{Bool, not}
use Prim.Native.Nat.{ℕ, zero, suc, ◌+◌, ◌-◌, ◌*◌, ◌/◌, ◌^◌, ◌≤◌}
use native.Mathlib.Nat.{add-mul, one-mul, zero-mul, mul-suc, mul-sub, sub-zero, pow-zero, div-eq_of_eq-mul_left, not-le_of_lt}
use native.Mathlib.Omega.{arith}
use lib.Dec.{T, leb, leb→le, nleb→lt}
use Rattle.attributes.specs.Rule.{ways, exactly, so_few, Unlikely, Enough}

-- to mark one of i + 1 exceptions is to choose i, and then the marked one among the other n - i items
marked : (n i : ℕ) → ways n (suc i) * suc i + ways n i * i ≡ ways n i * n
unfolding ways
marked zero zero = refl
marked zero (suc i) = omega (arith, zero-mul (suc i), zero-mul (suc (suc i)))
marked (suc n) zero = omega (arith, marked n 0)
marked (suc n) (suc i) =
    let a = ways n i in
    let b = ways n (suc i) in
    let c = ways n (suc (suc i)) in
    omega (
      arith,
      add-mul c b (suc (suc i)),
      add-mul b a (suc i),
      add-mul b a (suc n),
      mul-suc a i,
      mul-suc a n,
      mul-suc b (suc i),
      mul-suc b n,
      marked n i,
      marked n (suc i),
    )

-- so a product and a quotient lead from i exceptions to i + 1
unfoldable pub product : ℕ → ℕ → ℕ
product n zero = 1
product n (suc i) = product n i * (n - i) / suc i

product_ways : (n i : ℕ) → product n i ≡ ways n i
unfolding product ways
product_ways n zero = refl
product_ways n (suc i) =
    let exact : ways n i * (n - i) ≡ ways n (suc i) * suc i = omega (arith, marked n i, mul-sub (ways n i) n i) in
    ap (λ (w : ℕ). w * (n - i) / suc i) (product_ways n i) ∙ div-eq_of_eq-mul_left {n = suc i} (omega arith) exact

-- the chance of so few by these
unfoldable pub summed : ℕ → ℕ → ℕ → ℕ → ℕ
summed bad good n zero = product n 0 * (bad ^ 0 * good ^ (n - 0))
summed bad good n (suc x) = summed bad good n x + product n (suc x) * (bad ^ suc x * good ^ (n - suc x))

summed_few : (bad good n x : ℕ) → summed bad good n x ≡ so_few bad good n x
unfolding summed so_few exactly
summed_few bad good n zero = ap (λ (w : ℕ). w * (bad ^ 0 * good ^ (n - 0))) (product_ways n 0)
summed_few bad good n (suc x) =
    ap₂ (λ (few w : ℕ). few + w * (bad ^ suc x * good ^ (n - suc x))) (summed_few bad good n x) (product_ways n (suc x))

unfoldable pub unlikely : ℕ → ℕ → ℕ → ℕ → ℕ → Bool
unlikely whole level n x share = leb (summed share (whole - share) n x * 100) ((100 - level) * whole ^ n)

-- the test says what the rule does
module _ (whole level n x share : ℕ) where
  test_is : unlikely whole level n x share ≡ leb (so_few share (whole - share) n x * 100) ((100 - level) * whole ^ n)
  unfolding unlikely
  test_is = ap (λ (few : ℕ). leb (few * 100) ((100 - level) * whole ^ n)) (summed_few share (whole - share) n x)

  pub passes : T (unlikely whole level n x share) → Unlikely whole level n x share
  unfolding Unlikely
  passes t = leb→le (so_few share (whole - share) n x * 100) ((100 - level) * whole ^ n) (subst T test_is t)

  pub does_not : T (not (unlikely whole level n x share)) → ¬ Unlikely whole level n x share
  unfolding Unlikely
  does_not t = not-le_of_lt (nleb→lt (so_few share (whole - share) n x * 100) ((100 - level) * whole ^ n) (subst (λ (b : Bool). T (not b)) test_is t))

-- no exception at all: the power of what is good. So a size goes by the bound's rule, in whole percents.
pub none_at_all : (bad good n : ℕ) → so_few bad good n 0 ≡ good ^ n
unfolding so_few exactly ways
none_at_all bad good n = rw (pow-zero bad, sub-zero n, one-mul (good ^ n)) (one-mul (good ^ n))

pub size_rule : (level tolerance n : ℕ) → Unlikely 100 level n 0 tolerance ≡ Enough level tolerance n
unfolding Unlikely Enough
size_rule level tolerance n = ap (λ (few : ℕ). few * 100 ≤ (100 - level) * 100 ^ n) (none_at_all tolerance (100 - tolerance) n)
