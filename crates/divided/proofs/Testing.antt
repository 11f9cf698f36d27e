-- What a line is to the strata, where it may stand and what it adds, as the code tests it. Assumes nothing.
use mathlib.Core.Path.{◌≡◌, sym, ◌∙◌}
use Prim.Native.Nat.{ℕ, ◌-◌, ◌≤◌}
use native.Mathlib.Omega.{arith}
use lib.ListN.{length, set}
use lib.Seq.{set_out}
use borrow.Author.Tests.{eq-eqb, ne_eqb}
use Rattle.divided.specs.Steps.{counts_with}
use Rattle.divided.specs.declared.Dividing.{Dividing}

-- the counts with the stratum that ends, by its tests
module _ (s : Dividing) where
  pub none_open : s.strata ≡ 0 → s.counts ≡ counts_with s
  unfolding counts_with
  none_open e = sym (simp (eq-eqb _ _ e))

  module _ (some : s.strata ≡ 0 → ⊥) where
    pub counted : set s.counts (s.strata - 1) s.lines ≡ counts_with s
    unfolding counts_with
    counted = sym (simp (ne_eqb _ _ some))

    pub past_room : {room : ℕ} → length s.counts ≡ room → room ≤ s.strata - 1 → s.counts ≡ counts_with s
    past_room long h = sym (set_out s.counts (s.strata - 1) s.lines (omega arith)) ∙ counted
