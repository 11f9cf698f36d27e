-- The refusals 6 and 7 and the answer of `size_at`, as the tests meet them, and that the products fit 64 bits. Assumes nothing.
use mathlib.Core.Path.{◌≡◌, sym}
use Prim.Native.Nat.{ℕ, ◌+◌, ◌-◌, ◌*◌, ◌/◌, ◌≤◌, ◌<◌}
use native.Mathlib.Nat.{mul-le-mul}
use native.Mathlib.Omega.{arith}
use borrow.Author.Tests.{le-ltb, lt-ltb, le-leb, lt-leb, eq-eqb, ne_eqb}
use mir.Syntax.{w64}
use mir.Val.{Fits}
use Rattle.terms.specs.Outcome.{Outcome, accepted, refused}
use Rattle.terms.specs.Limits.{most_total}
use Rattle.terms.proofs.Rounding.{div_up_is}
use Rattle.factors.specs.declared.Level.{Level}
use Rattle.factors.specs.Levels.{level_of, ef}
use Rattle.factors.specs.Factors.{Reliability}
use Rattle.factors.proofs.Shape.{rf_top}
use Rattle.size.specs.Size.{size_at, size_of}

-- TE and AE against the total
module _ (total te ae : ℕ) (l : Level) (most : total ≤ most_total) (some : 0 < total) where
  pub te_zero : te ≡ 0 → refused 6 0 ≡ size_at total te ae l
  unfolding size_at
  te_zero h = simp (le-ltb most_total total most, ne_eqb total 0 (λ z. omega (arith, z)), eq-eqb te 0 h)

  module _ (tolerable : 0 < te) where
    pub te_above : total < te → refused 6 0 ≡ size_at total te ae l
    unfolding size_at
    te_above h = simp (le-ltb most_total total most, ne_eqb total 0 (λ z. omega (arith, z)), ne_eqb te 0 (λ z. omega (arith, z)), lt-ltb total te h)

    pub ae_above : te ≤ total → total < ae → refused 6 0 ≡ size_at total te ae l
    unfolding size_at
    ae_above within h = simp (le-ltb most_total total most, ne_eqb total 0 (λ z. omega (arith, z)), ne_eqb te 0 (λ z. omega (arith, z)), le-ltb total te within, lt-ltb total ae h)

-- past these tests: the answer, or TE is spent
module _ (total te ae : ℕ) (l : Level) (most : total ≤ most_total) (some : 0 < total) (tolerable : 0 < te) (within : te ≤ total) (anticipated : ae ≤ total) (f : ℕ) (expansion : f ≡ ef l) where
  pub spent : 100 * te ≤ ae * f → refused 7 0 ≡ size_at total te ae l
  unfolding size_at
  spent h =
      simp (le-ltb most_total total most, ne_eqb total 0 (λ z. omega (arith, z)), ne_eqb te 0 (λ z. omega (arith, z)), le-ltb total te within, le-ltb total ae anticipated, ← expansion, le-leb (100 * te) (ae * f) h)

  pub answered : (g : ℕ) → Reliability l 0 g → ae * f < 100 * te → accepted ((total * g + ((100 * te - ae * f) - 1)) / (100 * te - ae * f)) ≡ size_at total te ae l
  unfolding size_at
  answered g r h =
      simp (div_up_is, le-ltb most_total total most, ne_eqb total 0 (λ z. omega (arith, z)), ne_eqb te 0 (λ z. omega (arith, z)), le-ltb total te within, le-ltb total ae anticipated, ← expansion, ← r.value, lt-leb (100 * te) (ae * f) h)

-- what follows at the level
pub at_level : (percent total te ae : ℕ) {l : Level} {o : Outcome ℕ} → accepted l ≡ level_of percent → o ≡ size_at total te ae l → o ≡ size_of percent total te ae
unfolding size_of
at_level percent total te ae known e = rw (sym known) e

-- the products fit, and the sum that is divided
module _ (total k f : ℕ) (l : Level) (most : total ≤ most_total) (r : Reliability l k f) where
  wanted_most : total * f ≤ 8407000000000000000
  wanted_most = mul-le-mul {n₁ = total} {m₁ = f} {n₂ = 1000000000000000} {m₂ = 8407} most (omega (arith, rf_top l k))

  pub wanted_fits : Fits w64 (total * f)
  wanted_fits = record { fits = omega (arith, wanted_most) }

  pub sum_fits : (upwards : ℕ) → upwards ≤ 100 * most_total → Fits w64 (total * f + upwards)
  sum_fits upwards h = record { fits = omega (arith, wanted_most) }
