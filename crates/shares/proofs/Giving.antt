-- Leftover draws given out: how many, to which strata, and in which rank. Assumes nothing.
use mathlib.Core.Path.{◌≡◌, refl, sym, subst, subst⁻¹, ◌∙◌}
use mathlib.Core.List.{List}
use mathlib.Core.Logic.{◌⊎◌, inl, inr, ⊎_elim}
use Prim.Native.Nat.{ℕ, zero, suc, ◌+◌, ◌≤◌, ◌<◌}
use native.Mathlib.Decide.{ℕ_discrete}
use native.Mathlib.Omega.{arith}
use lib.ListN.{length, get_or, set, length-set}
use lib.Seq.{get_or-set_same, get_or-set_other}
use Rattle.terms.specs.Numbers.{sum}
use Rattle.shares.specs.Shares.{with_value, largest_at, give_out}
use Rattle.shares.proofs.Largest.{at_inside, at_largest, some_largest, Outranks, at_outranks, one_fewer, one_added}

-- the draws with one more for the stratum h
abbrev pub raised : List ℕ → ℕ → List ℕ
raised ds h = set ds h (get_or ds h 0 + 1)

pub give_length : (k : ℕ) (rs ds : List ℕ) → length (give_out k rs ds) ≡ length ds
unfolding give_out
give_length zero rs ds = refl
give_length (suc k) rs ds =
    let h = largest_at rs in
    give_length k (set rs h 0) (raised ds h) ∙ length-set ds h (get_or ds h 0 + 1)

-- the remainders and the draws of the same strata, of which there are some
pub record Beside (rs ds : List ℕ) : Type 0 where
  pub same : length rs ≡ length ds
  pub some : 0 < length rs

module _ {rs ds : List ℕ} (by : Beside rs ds) where
  pub in_remainders : largest_at rs < length rs
  in_remainders = at_inside rs by.some

  pub in_draws : largest_at rs < length ds
  in_draws = omega (arith, in_remainders, by.same)

  pub beside_next : Beside (set rs (largest_at rs) 0) (raised ds (largest_at rs))
  beside_next =
      let h = largest_at rs in
      let l = length-set rs h 0 in
      record { same = l ∙ by.same ∙ sym (length-set ds h (get_or ds h 0 + 1)); some = omega (arith, by.some) }

pub give_adds : (k : ℕ) (rs ds : List ℕ) → Beside rs ds → sum (give_out k rs ds) ≡ sum ds + k
unfolding give_out
give_adds zero rs ds by = omega arith
give_adds (suc k) rs ds by =
    let h = largest_at rs in
    omega (arith, give_adds k (set rs h 0) (raised ds h) (beside_next by), one_added ds h (in_draws by))

-- each stratum has what it had, or one more by its remainder; one more goes to those that rank before the others
pub record Fair (rs ds out : List ℕ) : Type 0 where
  pub once : (g : ℕ) → (get_or out g 0 ≡ get_or ds g 0) ⊎ ((get_or out g 0 ≡ get_or ds g 0 + 1) × (0 < get_or rs g 0))
  pub ranked : (h g : ℕ) → get_or out h 0 ≡ get_or ds h 0 + 1 → get_or out g 0 ≡ get_or ds g 0 → Outranks rs h g

-- one draw goes to the largest remainder, and the others are given out fairly
module _ (rs ds out : List ℕ) (by : Beside rs ds) (some : 0 < get_or rs (largest_at rs) 0) (fair : Fair (set rs (largest_at rs) 0) (raised ds (largest_at rs)) out) where
  abbrev top : ℕ
  top = largest_at rs

  given : get_or out top 0 ≡ get_or ds top 0 + 1
  given =
      ⊎_elim (λ e. e ∙ get_or-set_same ds top (get_or ds top 0 + 1) 0 (in_draws by))
      (λ w. absurd (omega (arith, w.1, get_or-set_same rs top 0 0 (in_remainders by)))) (fair.once top)

  -- another stratum has the same remainder and the same draws as before
  module _ (g : ℕ) (other : g ≡ top → ⊥) where
    remainder_kept : get_or (set rs top 0) g 0 ≡ get_or rs g 0
    remainder_kept = get_or-set_other rs top g 0 0 other

    draws_kept : get_or (raised ds top) g 0 ≡ get_or ds g 0
    draws_kept = get_or-set_other ds top g (get_or ds top 0 + 1) 0 other

  once_more : (g : ℕ) → (get_or out g 0 ≡ get_or ds g 0) ⊎ ((get_or out g 0 ≡ get_or ds g 0 + 1) × (0 < get_or rs g 0))
  once_more g =
      elim (ℕ_discrete g top) [
        | yes e ↦ inr (subst⁻¹ (λ (j : ℕ). (get_or out j 0 ≡ get_or ds j 0 + 1) × (0 < get_or rs j 0)) e (given, some))
        | no f ↦ ⊎_elim (λ e. inl (e ∙ draws_kept g f)) (λ w. inr (omega (arith, w.0, draws_kept g f), omega (arith, w.1, remainder_kept g f))) (fair.once g)
      ]

  ranked_more : (h g : ℕ) → get_or out h 0 ≡ get_or ds h 0 + 1 → get_or out g 0 ≡ get_or ds g 0 → Outranks rs h g
  ranked_more h g p q =
      let other : g ≡ top → ⊥ = λ e. omega (arith, subst (λ (j : ℕ). get_or out j 0 ≡ get_or ds j 0) e q, given) in
      elim (ℕ_discrete h top) [
        | yes e ↦ subst⁻¹ (λ (j : ℕ). Outranks rs j g) e (at_outranks rs g other)
        | no f ↦
            let u = remainder_kept h f in
            let v = remainder_kept g other in
            ⊎_elim (λ l. inl (omega arith)) (λ w. inr (omega arith, w.1)) (fair.ranked h g (omega (arith, draws_kept h f)) (omega (arith, draws_kept g other)))
      ]

  pub fair_more : Fair rs ds out
  fair_more = record { once = once_more; ranked = ranked_more }

pub give_fair : (k : ℕ) (rs ds : List ℕ) → Beside rs ds → k ≤ with_value rs → Fair rs ds (give_out k rs ds)
unfolding give_out
give_fair zero rs ds by few = record { once = λ g. inl refl; ranked = λ h g p q. absurd (omega arith) }
give_fair (suc k) rs ds by few =
    let h = largest_at rs in
    let some : 0 < get_or rs h 0 = omega (arith, some_largest rs (omega arith), at_largest rs) in
    fair_more rs ds (give_out k (set rs h 0) (raised ds h)) by some (give_fair k (set rs h 0) (raised ds h) (beside_next by) (omega (arith, one_fewer rs h some)))
