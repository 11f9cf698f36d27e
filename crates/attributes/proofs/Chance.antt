-- The chance of so few exceptions, when one item more is looked at; and all chances together. Assumes nothing.
use mathlib.Core.Path.{◌≡◌, refl, sym, ap, ap₂, ◌∙◌}
use mathlib.Core.Logic.{⊎_elim}
use Prim.Native.Nat.{ℕ, zero, suc, ◌+◌, ◌-◌, ◌*◌, ◌^◌, ◌≤◌, ◌<◌}
use native.Mathlib.Nat.{add-mul, mul-add, mul_assoc, mul_right_comm, zero-mul, sub-zero, suc-sub-suc, pow-zero, pow-suc, le-add_right}
use native.Mathlib.Omega.{arith}
use Rattle.terms.proofs.Tests.{le_or_lt}
use Rattle.attributes.specs.Rule.{ways, exactly, so_few}

-- there are not more exceptions than items
no_ways : (n i : ℕ) → n < i → ways n i ≡ 0
unfolding ways
no_ways n zero past = absurd (omega arith)
no_ways zero (suc i) past = refl
no_ways (suc n) (suc i) past = omega (arith, no_ways n (suc i) (omega arith), no_ways n i (omega arith))

-- a factor of either power, taken out to the right
from_good : (w p q g : ℕ) → w * (p * (q * g)) ≡ w * (p * q) * g
from_good w p q g = ap (λ (z : ℕ). w * z) (sym (mul_assoc p q g)) ∙ sym (mul_assoc w (p * q) g)

from_bad : (w p b q : ℕ) → w * (p * b * q) ≡ w * (p * q) * b
from_bad w p b q = ap (λ (z : ℕ). w * z) (mul_right_comm p b q) ∙ sym (mul_assoc w (p * q) b)

-- the last item is in order: a factor of good more, where there are ways at all
module _ (good n i p : ℕ) where
  some_ways : suc i ≤ n → ways n (suc i) * (p * good ^ (n - i)) ≡ ways n (suc i) * (p * good ^ (n - suc i)) * good
  some_ways there =
      let longer : n - i ≡ suc (n - suc i) = omega arith in
      ap (λ (m : ℕ). ways n (suc i) * (p * good ^ m)) longer
      ∙ ap (λ (z : ℕ). ways n (suc i) * (p * z)) (pow-suc good (n - suc i))
      ∙ from_good (ways n (suc i)) p (good ^ (n - suc i)) good

  without_ways : n < suc i → ways n (suc i) * (p * good ^ (n - i)) ≡ ways n (suc i) * (p * good ^ (n - suc i)) * good
  without_ways past =
      let none : ways n (suc i) ≡ 0 = no_ways n (suc i) past in
      let left : ways n (suc i) * (p * good ^ (n - i)) ≡ 0 = ap (λ (w : ℕ). w * (p * good ^ (n - i))) none ∙ zero-mul _ in
      let right : ways n (suc i) * (p * good ^ (n - suc i)) ≡ 0 = ap (λ (w : ℕ). w * (p * good ^ (n - suc i))) none ∙ zero-mul _ in
      left ∙ sym (ap (λ (z : ℕ). z * good) right ∙ zero-mul good)

  in_order : ways n (suc i) * (p * good ^ (n - i)) ≡ ways n (suc i) * (p * good ^ (n - suc i)) * good
  in_order = ⊎_elim some_ways without_ways (le_or_lt (suc i) n)

module _ (bad good : ℕ) where
  exactly_none : (n : ℕ) → exactly bad good (suc n) 0 ≡ exactly bad good n 0 * good
  unfolding exactly ways
  exactly_none n =
      ap (λ (z : ℕ). 1 * (bad ^ 0 * z)) (ap (λ (m : ℕ). good ^ m) (sub-zero (suc n)) ∙ pow-suc good n)
      ∙ from_good 1 (bad ^ 0) (good ^ n) good
      ∙ ap (λ (m : ℕ). 1 * (bad ^ 0 * good ^ m) * good) (sym (sub-zero n))

  exactly_some : (n i : ℕ) → exactly bad good (suc n) (suc i) ≡ exactly bad good n (suc i) * good + exactly bad good n i * bad
  unfolding exactly ways
  exactly_some n i =
      let exception : ways n i * (bad ^ suc i * good ^ (n - i)) ≡ ways n i * (bad ^ i * good ^ (n - i)) * bad =
      ap (λ (z : ℕ). ways n i * (z * good ^ (n - i))) (pow-suc bad i) ∙ from_bad (ways n i) (bad ^ i) bad (good ^ (n - i)) in
      ap (λ (m : ℕ). (ways n (suc i) + ways n i) * (bad ^ suc i * good ^ m)) (suc-sub-suc n i)
      ∙ add-mul (ways n (suc i)) (ways n i) (bad ^ suc i * good ^ (n - i))
      ∙ ap₂ (λ (a b : ℕ). a + b) (in_order good n i (bad ^ suc i)) exception

  -- the same of so few, which is what everything below stands on
  pub few_none : (n : ℕ) → so_few bad good (suc n) 0 ≡ so_few bad good n 0 * good
  unfolding so_few
  few_none n = exactly_none n

  pub few_some : (n x : ℕ) → so_few bad good (suc n) (suc x) ≡ so_few bad good n x * bad + so_few bad good n (suc x) * good
  unfolding so_few
  few_some n zero =
      omega (arith, exactly_none n, exactly_some n 0, add-mul (exactly bad good n 0) (exactly bad good n 1) good)
  few_some n (suc x) =
      let last = exactly bad good n (suc (suc x)) in
      let before = exactly bad good n (suc x) in
      omega (
        arith,
        few_some n x,
        exactly_some n (suc x),
        add-mul (so_few bad good n x) before bad,
        add-mul (so_few bad good n x + before) last good,
      )

  -- where nothing is looked at, no exception is found
  pub few_of_none : (x : ℕ) → so_few bad good 0 x ≡ 1
  unfolding so_few exactly ways
  few_of_none zero = rw (pow-zero bad, sub-zero 0, pow-zero good)
  few_of_none (suc x) = omega (arith, zero-mul (bad ^ suc x * good ^ (0 - suc x)), few_of_none x)

  -- one exception more is allowed
  pub few_allowed : (n x : ℕ) → so_few bad good n x ≤ so_few bad good n (suc x)
  unfolding so_few
  few_allowed n x = le-add_right (so_few bad good n x) (exactly bad good n (suc x))

  -- with all items allowed it is certain: the whole, so that this is a chance
  pub all_together : (n x : ℕ) → n ≤ x → so_few bad good n x ≡ (bad + good) ^ n
  all_together zero x many = few_of_none x ∙ sym (pow-zero (bad + good))
  all_together (suc n) zero many = absurd (omega arith)
  all_together (suc n) (suc x) many =
      let certain : ℕ = (bad + good) ^ n in
      few_some n x
      ∙ ap₂ (λ (a b : ℕ). a * bad + b * good) (all_together n x (omega arith)) (all_together n (suc x) (omega arith))
      ∙ sym (pow-suc (bad + good) n ∙ mul-add certain bad good)
