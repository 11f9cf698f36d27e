-- The least number with a property that larger numbers keep: a test of it and of its neighbour below is enough; and there is one. Assumes nothing.
use mathlib.Core.Path.{◌≡◌}
use mathlib.Core.Bool.{Bool, not}
use Prim.Native.Nat.{ℕ, ◌-◌, ◌≤◌, ◌<◌}
use native.Mathlib.Nat.{le_antisymm}
use native.Mathlib.Omega.{arith}
use lib.Dec.{T}
use Rattle.terms.proofs.Every.{both, both_left, both_right}
use Rattle.attributes.specs.Rule.{Least}

unfoldable pub edge : (ℕ → Bool) → ℕ → Bool
edge test v = both (test v) (not (test (v - 1)))

module _ (P : ℕ → Type 0) (test : ℕ → Bool) (v : ℕ) where
  pub least_at : T (edge test v) → (T (test v) → P v) → (T (not (test (v - 1))) → ¬ P (v - 1)) → ((w : ℕ) → w ≤ v - 1 → P w → P (v - 1)) → Least P v
  unfolding edge
  least_at t here below kept =
      let not_below : ¬ P (v - 1) = below (both_right (test v) (not (test (v - 1))) t) in
      record { has = here (both_left (test v) (not (test (v - 1))) t); none_below = λ w less p. not_below (kept w (omega arith) p) }

module _ (P : ℕ → Type 0) where
  not_above : (v w : ℕ) → Least P v → Least P w → v ≤ w
  not_above v w a b = let n : ¬ (w < v) = λ less. a.none_below w less b.has in omega arith

  pub one_least : (v w : ℕ) → Least P v → Least P w → v ≡ w
  one_least v w a b = le_antisymm (not_above v w a b) (not_above w v b a)
