-- The two tables agree: without an exception the bound is at most the tolerance. Assumes nothing.
use mathlib.Core.Path.{◌≡◌, sym, ap, ap₂, ◌∙◌, subst₂}
use Prim.Native.Nat.{ℕ, zero, suc, ◌-◌, ◌*◌, ◌^◌, ◌≤◌, ◌<◌}
use native.Mathlib.Nat.{mul_comm, mul_assoc, mul_right_comm, mul-mul-mul_comm, mul-sub, mul-le-mul_right, pow-zero, pow-suc}
use native.Mathlib.Omega.{arith}
use Rattle.terms.specs.Outcome.{accepted}
use Rattle.attributes.specs.Rule.{so_few, Unlikely, Enough}
use Rattle.attributes.specs.Attributes.{bound_of, BoundRule}
use Rattle.attributes.proofs.Computing.{none_at_all}
use Rattle.attributes.proofs.Whole.{items_by_rule, bound_by_rule}

product_power : (a b n : ℕ) → (a * b) ^ n ≡ a ^ n * b ^ n
product_power a b zero = rw (pow-zero (a * b), pow-zero a, pow-zero b)
product_power a b (suc n) =
    let again : (a * b) ^ suc n ≡ a ^ n * b ^ n * (a * b) = pow-suc (a * b) n ∙ ap (λ (p : ℕ). p * (a * b)) (product_power a b n) in
    let apart : a ^ n * b ^ n * (a * b) ≡ a ^ n * a * (b ^ n * b) = mul-mul-mul_comm (a ^ n) (b ^ n) a b in
    again ∙ apart ∙ sym (ap₂ (λ (p q : ℕ). p * q) (pow-suc a n) (pow-suc b n))

-- a sample that is enough in percents is unlikely without an exception in hundredths of them
in_hundredths : (level tolerance n : ℕ) → Enough level tolerance n → Unlikely 10000 level n 0 (100 * tolerance)
unfolding Enough Unlikely
in_hundredths level tolerance n enough =
    let good : 10000 - 100 * tolerance ≡ (100 - tolerance) * 100 = omega (arith, mul-sub 100 100 tolerance, mul_comm (100 - tolerance) 100) in
    let few : so_few (100 * tolerance) (10000 - 100 * tolerance) n 0 ≡ (100 - tolerance) ^ n * 100 ^ n =
    none_at_all (100 * tolerance) (10000 - 100 * tolerance) n ∙ ap (λ (g : ℕ). g ^ n) good ∙ product_power (100 - tolerance) 100 n in
    let left : (100 - tolerance) ^ n * 100 * 100 ^ n ≡ so_few (100 * tolerance) (10000 - 100 * tolerance) n 0 * 100 =
    mul_right_comm ((100 - tolerance) ^ n) 100 (100 ^ n) ∙ sym (ap (λ (z : ℕ). z * 100) few) in
    let right : (100 - level) * 100 ^ n * 100 ^ n ≡ (100 - level) * 10000 ^ n =
    mul_assoc (100 - level) (100 ^ n) (100 ^ n) ∙ ap (λ (p : ℕ). (100 - level) * p) (sym (product_power 100 100 n)) in
    subst₂ (λ (a b : ℕ). a ≤ b) left right (mul-le-mul_right (100 ^ n) enough)

pub none_found : (level tolerance h : ℕ) → bound_of level tolerance 0 ≡ accepted h → h ≤ 100 * tolerance
none_found level tolerance h told =
    let b : BoundRule level tolerance 0 h = bound_by_rule level tolerance 0 h told in
    let enough : Enough level tolerance b.items = (items_by_rule level tolerance b.items b.of_size).has in
    let n : ¬ (100 * tolerance < h) = λ less. b.least.none_below (100 * tolerance) less (in_hundredths level tolerance b.items enough) in
    omega arith
