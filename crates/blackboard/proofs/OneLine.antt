-- One line, by its mark: what it gives to the sums of a kind, its refusals by the size of its error, and the answer from both kinds. Assumes nothing.
use Prim.Native.Nat.{ℕ, ◌+◌, ◌*◌, ◌≤◌, ◌<◌}
use native.Mathlib.Nat.{mul-le-mul_right, mul_comm}
use native.Mathlib.Omega.{arith}
use mathlib.Core.Path.{◌≡◌, sym, ap, ◌∙◌}
use mathlib.Core.Bool.{true, false}
use borrow.Author.Tests.{lt-ltb, le-ltb, eq-eqb, ne_eqb}
use mathlib.Core.Logic.{◌⊎◌, inl, inr}
use lib.Dec.{ltb, eqb}
use lib.IntN.{ℤ}
use mir.Syntax.{w64}
use mir.Val.{SFits, Fits}
use Rattle.terms.specs.Outcome.{accepted, refused}
use Rattle.terms.specs.Numbers.{pick, div_up}
use Rattle.terms.proofs.Rounding.{div_up_least}
use Rattle.signed.specs.Errors.{overstated, understated, size_of}
use Rattle.signed.proofs.Laws.{size_adds, most_size_lem}
use Rattle.signed.proofs.Signs.{held, kept, size_read}
use Rattle.blackboard.specs.declared.{BoardSums.BoardSums, BoardKinds.BoardKinds}
use Rattle.blackboard.specs.Project.{board_amount, with_line, line_added}
use Rattle.blackboard.specs.Steps.{SmallSums}

-- an amount is never above the interval
pub amount_most : (J v e : ℕ) → 0 < v → e ≤ v → board_amount J v e ≤ J
unfolding board_amount
amount_most J v e some h = div_up_least J (e * J) v some (omega (arith, mul-le-mul_right J h, mul_comm J v))

-- as `board_amount` meets it
pub is_amount : (J v e r : ℕ) → 0 < v → e ≤ v → r ≡ div_up (J * e) v → (r ≡ board_amount J v e) × (r ≤ J)
unfolding board_amount
is_amount J v e r some h told =
    let is = told ∙ ap (λ (x : ℕ). div_up x v) (mul_comm J e) in
    (is, omega (arith, is, amount_most J v e some h))

-- one line of both kinds, as `add_line` meets it
module _ (J item : ℕ) (kinds : BoardKinds) (mark v : ℕ) (e : ℤ) (fits : SFits w64 e) (size : ℕ) (told : size ≡ size_of (held e)) where
  is_size : size ≡ size_of e
  is_size = size_read e fits.sfits told

  pub line_above : v < size → refused 14 item ≡ line_added J item kinds mark v e
  unfolding line_added
  line_above h =
      let t : ltb v (size_of e) ≡ true = lt-ltb v (size_of e) (omega (arith, is_size)) in
      sym (simp t)

  module _ (small : size ≤ v) where
    within : ltb v (size_of e) ≡ false
    within = le-ltb v (size_of e) (omega (arith, is_size))

    pub line_unmarked : mark ≡ 0 → 0 < size → refused 15 item ≡ line_added J item kinds mark v e
    unfolding line_added
    line_unmarked z h =
        let t : ltb 0 (size_of e) ≡ true = lt-ltb 0 (size_of e) (omega (arith, is_size)) in
        sym (simp (within, eq-eqb mark 0 z, t))

    pub line_empty : mark ≡ 0 → size ≤ 0 → accepted kinds ≡ line_added J item kinds mark v e
    unfolding line_added
    line_empty z h =
        let t : ltb 0 (size_of e) ≡ false = le-ltb 0 (size_of e) (omega (arith, is_size)) in
        let one : mark ≡ 1 → ⊥ = λ q. omega arith in
        let two : mark ≡ 2 → ⊥ = λ q. omega arith in
        sym (simp (within, eq-eqb mark 0 z, t, ne_eqb mark 1 one, ne_eqb mark 2 two))

    pub over_within : {o : ℕ} → o ≡ overstated (held e) → o ≤ v
    over_within is = omega (arith, is_size, size_adds e, is ∙ ap overstated (kept e fits.sfits))

    pub under_within : {o : ℕ} → o ≡ understated (held e) → o ≤ v
    under_within is = omega (arith, is_size, size_adds e, is ∙ ap understated (kept e fits.sfits))

    clear : ((mark ≡ 0) × (size ≤ 0)) ⊎ (mark ≡ 0 → ⊥) → pick (eqb mark 0) (ltb 0 (size_of e)) false ≡ false
    clear (inl h) = let t : ltb 0 (size_of e) ≡ false = le-ltb 0 (size_of e) (omega (arith, is_size, h.1)) in rw (eq-eqb mark 0 h.0, t)
    clear (inr z) = rw (ne_eqb mark 0 z)

    pub line_marked : ((mark ≡ 0) × (size ≤ 0)) ⊎ (mark ≡ 0 → ⊥) → {o u : ℕ} {over under : BoardSums} → o ≡ overstated (held e) → u ≡ understated (held e) →
        over ≡ with_line J kinds.over mark v o → under ≡ with_line J kinds.under mark v u →
        accepted (record { over = over; under = under }) ≡ line_added J item kinds mark v e
    unfolding line_added
    line_marked z {o} {u} os us is-over is-under =
        let a = is-over ∙ ap (with_line J kinds.over mark v) (os ∙ ap overstated (kept e fits.sfits)) in
        let b = is-under ∙ ap (with_line J kinds.under mark v) (us ∙ ap understated (kept e fits.sfits)) in
        (λ i. accepted (record { over = a i; under = b i })) ∙ sym (simp (within, clear z))

-- both sums of a kind, added, fit
pub sums_fit : {sums : BoardSums} → SmallSums sums → Fits w64 (sums.full + sums.sampled)
sums_fit small = record { fits = omega (arith, small.small, most_size_lem false) }
