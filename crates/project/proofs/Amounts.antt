-- One amount: rounded once and upwards, never above the interval, never less than the line's share and less than one cent in its place above
-- it. Assumes nothing.
use Prim.Native.Nat.{ℕ, zero, suc, ◌+◌, ◌*◌, ◌≤◌, ◌<◌, min, zero-le}
use native.Mathlib.Nat.{mul-le-mul, mul-le-mul_right, mul_comm, zero-mul, mul-zero, suc-mul, eq-zero-or-pos}
use native.Mathlib.Omega.{arith}
use mathlib.Core.Path.{◌≡◌, refl, sym, ap, ◌∙◌}
use mathlib.Core.Logic.{⊎_elim}
use mir.Syntax.{w64}
use mir.Val.{Fits}
use Rattle.terms.specs.Numbers.{div_up}
use Rattle.terms.proofs.Rounding.{div_up_least, below_div_up, div_up_enough}
use Rattle.project.specs.Lines.{amount}

-- an amount is rounded once, and upwards
pub amount_is : (J v e : ℕ) → amount J v e ≡ div_up (e * J) v
unfolding amount
amount_is J v e = refl

-- it is never above the interval
pub amount_most : (J v e : ℕ) → 0 < v → e ≤ v → amount J v e ≤ J
amount_most J v e some h = rw (amount_is J v e) (div_up_least J (e * J) v some (omega (arith, mul-le-mul_right J h, mul_comm J v)))

-- and an error of 0 has the amount 0
pub amount_none : (J v e : ℕ) → 0 < v → e ≡ 0 → 0 ≡ amount J v e
amount_none J v e some z =
    let none : div_up (e * J) v ≤ 0 = div_up_least 0 (e * J) v some (rw (z, zero-mul J) zero-le) in
    omega (arith, amount_is J v e)

-- as the wide product gives it
pub amount_wide : (J v e a : ℕ) → a ≡ div_up (J * e) v → a ≡ amount J v e
amount_wide J v e a is = is ∙ ap (λ (x : ℕ). div_up x v) (mul_comm J e) ∙ sym (amount_is J v e)

-- at an interval of 32 bits what is divided fits 64
module _ (J v e : ℕ) (small : v ≤ J) (within : e ≤ v) (narrow : J < 4294967296) where
  pub product_most : e * J ≤ 4294967295 * 4294967295
  product_most = mul-le-mul {n₂ = 4294967295} {m₂ = 4294967295} (omega arith) (omega arith)

  pub product_fits : Fits w64 (e * J)
  product_fits = record { fits = omega (arith, product_most) }

-- over all its cents a line's amounts are never less than J times its error,
pub amount_least : (J v e : ℕ) → e ≤ v → J * e ≤ v * amount J v e
amount_least J v e h =
    ⊎_elim
    (λ (z : v ≡ 0). let q : e ≡ 0 = omega arith in omega (arith, ap (λ (n : ℕ). J * n) q, mul-zero J))
    (λ some. rw (amount_is J v e) (omega (arith, div_up_enough (e * J) v some, mul_comm e J, mul_comm v (div_up (e * J) v))))
    (eq-zero-or-pos v)

-- and more by less than the line's value
over_least : (J v e a : ℕ) → div_up (e * J) v ≡ a → v * a + min 1 v ≤ J * e + v
over_least J v e zero q = omega (arith, mul-zero v)
over_least J v e (suc a) q =
    ⊎_elim
    (λ (z : v ≡ 0). omega (arith, ap (λ (n : ℕ). n * suc a) z, zero-mul (suc a)))
    (λ some. omega (arith, below_div_up a (e * J) v some (omega (arith, q)), mul_comm e J, mul_comm v (suc a), suc-mul a v))
    (eq-zero-or-pos v)

pub amount_over : (J v e : ℕ) → v * amount J v e + min 1 v ≤ J * e + v
amount_over J v e = rw (amount_is J v e) (over_least J v e (div_up (e * J) v) refl)
