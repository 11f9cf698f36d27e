-- `practice::example::allowance` is safe: a step below 1000 times a projected error within the limit fits. Assumes nothing.
use native.Mathlib.Omega.{arith}
use native.Mathlib.Nat.{mul-le-mul}
use Prim.Native.Nat.{ℕ, ◌*◌, ◌<◌, ◌≤◌}
use borrow.Author.Rules.{rules}
use Rattle.practice.proofs.example.allowance.Goals as goal

fits : (step projected : ℕ) → step < 1000 → projected ≤ 4000000000 → step * projected ≤ 1000 * 4000000000
fits step projected s p = mul-le-mul {n₂ = 1000} {m₂ = 4000000000} (omega arith) p

pub overflow_mul-step_of : goal.overflow_mul-step_of
overflow_mul-step_of c = omega (arith, fits c.step_of.result c.args.projected (search rules) (search rules))
