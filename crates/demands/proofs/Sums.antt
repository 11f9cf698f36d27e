-- Sums over all starts, and that a line is drawn at as many starts as it has cents. Assumes nothing.
use Prim.Native.Nat.{ℕ, zero, suc, ◌+◌, ◌*◌, ◌/◌, ◌%◌, ◌≤◌, ◌<◌}
use native.Mathlib.Nat.{suc-mul, add-mul, div-add-mod', mod-lt, mul_comm, zero-mul}
use native.Mathlib.Omega.{arith}
use mathlib.Core.Path.{◌≡◌, refl, sym}
use mathlib.Core.Bool.{Bool, true, false}
use borrow.Author.Tests.{ltb-true, ltb-false, lt-ltb}
use lib.Dec.{ltb}
use Rattle.draw.specs.Points.{points, covers}
use Rattle.draw.proofs.Points.{points_step, points_at}
use Rattle.demands.specs.Starts.{sum_below, one_if}

pub sum_cong : (n : ℕ) (f g : ℕ → ℕ) → ((s : ℕ) → s < n → f s ≡ g s) → sum_below n f ≡ sum_below n g
unfolding sum_below
sum_cong zero f g h = refl
sum_cong (suc n) f g h = rw (sum_cong n f g (λ s l. h s (omega arith)), h n (omega arith))

pub sum_add : (n : ℕ) (f g : ℕ → ℕ) → sum_below n (λ s. f s + g s) ≡ sum_below n f + sum_below n g
unfolding sum_below
sum_add zero f g = refl
sum_add (suc n) f g = omega (arith, sum_add n f g)

pub sum_const : (n a : ℕ) → sum_below n (λ s. a) ≡ n * a
unfolding sum_below
sum_const zero a = sym (zero-mul a)
sum_const (suc n) a = omega (arith, sum_const n a, suc-mul n a)

pub sum_times : (n : ℕ) (f : ℕ → ℕ) (a : ℕ) → sum_below n (λ s. f s * a) ≡ sum_below n f * a
unfolding sum_below
sum_times zero f a = sym (zero-mul a)
sum_times (suc n) f a = omega (arith, sum_times n f a, add-mul (sum_below n f) (f n) a)

-- of the n numbers below n, r are below r
all_below : (n r : ℕ) → n ≤ r → sum_below n (λ s. one_if (ltb s r)) ≡ n
unfolding sum_below
all_below zero r h = refl
all_below (suc n) r h = rw (all_below n r (omega arith), lt-ltb n r h) (omega arith)

below_one : (n r : ℕ) (b : Bool) → ltb n r ≡ b → r ≤ suc n → (r ≤ n → sum_below n (λ s. one_if (ltb s r)) ≡ r) → sum_below n (λ s. one_if (ltb s r)) + one_if b ≡ r
below_one n r true e h small = let l : n < r = ltb-true n r e in rw (all_below n r (omega arith)) (omega arith)
below_one n r false e h small = rw (small (ltb-false n r e)) (omega arith)

sum_below_lem : (n r : ℕ) → r ≤ n → sum_below n (λ s. one_if (ltb s r)) ≡ r
unfolding sum_below
sum_below_lem zero r h = omega arith
sum_below_lem (suc n) r h = below_one n r (ltb n r) refl h (sum_below_lem n r)

-- the points before cent c, over all starts, are c
points_all : (J c : ℕ) → 0 < J → sum_below J (λ s. points J s c) ≡ c
points_all J c some =
    omega (
      arith,
      sum_cong J (λ s. points J s c) (λ s. c / J + one_if (ltb s (c % J))) (λ s l. points_at J s c l),
      sum_add J (λ s. c / J) (λ s. one_if (ltb s (c % J))),
      sum_const J (c / J),
      sum_below_lem J (c % J) (omega (arith, mod-lt c some)),
      div-add-mod' c J,
      mul_comm J (c / J),
    )

-- a line of v cents, v at most J, covers a point at v of the J starts, wherever it begins
pub covered_at : (J o v : ℕ) → 0 < J → v ≤ J → sum_below J (λ s. one_if (covers J s o v)) ≡ v
covered_at J o v some small =
    omega (
      arith,
      points_all J o some,
      points_all J (o + v) some,
      sum_cong J (λ s. points J s (o + v)) (λ s. points J s o + one_if (covers J s o v)) (λ s l. points_step J s o v some small),
      sum_add J (λ s. points J s o) (λ s. one_if (covers J s o v)),
    )
