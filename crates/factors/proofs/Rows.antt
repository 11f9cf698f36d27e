-- The rows of the table: a level's row has its sixty-four factors. Assumes nothing.
use mathlib.Core.Path.{◌≡◌, sym, ap, subst, ◌∙◌}
use mathlib.Core.List.{List}
use Prim.Native.Nat.{ℕ, suc, ◌+◌, ◌*◌, ◌≤◌, ◌<◌}
use native.Mathlib.Numerals.{add-one}
use native.Mathlib.Omega.{arith}
use lib.IntN.{pos, ◌-ℤ◌}
use borrow.Author.Tests.{lt-ltb}
use lib.ListN.{get_or, drop}
use lib.Seq.{get_or-take, get_or-drop}
use Rattle.factors.specs.declared.Level.{Level}
use Rattle.factors.specs.Levels.{percent_of, row_of}
use Rattle.factors.specs.Rule.{Factor}
use Rattle.factors.specs.Table.{table}
use Rattle.factors.specs.Factors.{rf, factors_of, step_of, Reliability}
use Rattle.factors.proofs.Whole.{rf_in, rf_out, rf_factor}

-- a level's row
module _ (l : Level) where
  pub factors_at : (k : ℕ) → k < 64 → get_or (factors_of l) k 0 ≡ rf l k
  unfolding factors_of
  factors_at k h = get_or-take 64 (drop (row_of l * 64) table) k 0 h ∙ get_or-drop (row_of l * 64) table k 0 ∙ sym (rf_in l k h)

  -- a step, as it is read from the row
  pub step_read : (k p q : ℕ) → p ≡ k → q ≡ k + 1 → k + 1 < 64 → (pos (get_or (factors_of l) q 0) -ℤ pos (get_or (factors_of l) p 0)) -ℤ pos 100 ≡ step_of l (k + 1)
  unfolding step_of
  step_read k p q from to h =
      rw (from, to, factors_at k (omega arith), factors_at (k + 1) h, add-one, lt-ltb (suc k) 64 (omega arith))

-- the entry at k of a level's factors
pub factor_read : {l : Level} {k : ℕ} {factors : List ℕ} → factors ≡ factors_of l → k < 64 → Reliability l k (get_or factors k 0)
factor_read {l} {k} {factors} e h =
    let same : get_or factors k 0 ≡ rf l k = ap (λ (s : List ℕ). get_or s k 0) e ∙ factors_at l k h in
    record { value = same; rule = λ g. subst (λ (x : ℕ). Factor (percent_of l) k x) (sym same) (rf_factor l k g) }

-- and none past the table
pub past_table : {l : Level} {k : ℕ} → 64 ≤ k → Reliability l k 0
past_table {l} {k} h = record { value = sym (rf_out l k h); rule = λ g. absurd (omega arith) }
