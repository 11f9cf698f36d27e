-- From the end of the rounds to the figures and the answer, as `figures_of` and `split_total` meet them. Assumes nothing.
use mathlib.Core.Path.{◌≡◌, sym, ap, ap₂, ◌∙◌}
use mathlib.Core.List.{List}
use Prim.Native.Nat.{ℕ, ◌-◌, ◌/◌, ◌≤◌, ◌<◌}
use native.Mathlib.Nat.{le_refl}
use native.Mathlib.Omega.{arith}
use borrow.Author.Tests.{eq-eqb}
use lib.ListN.{length}
use Rattle.terms.specs.Outcome.{refused}
use Rattle.terms.specs.Numbers.{sum}
use Rattle.split.specs.Rounds.{above, Rest, split_lines}
use Rattle.split.specs.Split.{Totalled, figures_of, figures_from}
use Rattle.split.proofs.Lines.{sum_parts}
use Rattle.split.proofs.Laws.{Settled, settles}

-- the split of a ledger with draws
pub split_settles : (ledger : List ℕ) (n : ℕ) → 0 < n → Settled ledger n (split_lines ledger n)
split_settles ledger n some = settles n ledger n some (le_refl n)

-- 8, or the figures
pub no_draws : (ledger : List ℕ) (n : ℕ) → n ≡ 0 → refused 8 0 ≡ figures_from ledger n
unfolding figures_from
no_draws ledger n e = sym (simp (eq-eqb _ _ e))

-- where the recursion has answered d draws and left the total s
module _ {ledger : List ℕ} {n t d s : ℕ} (at : Totalled ledger t) (some : 0 < n) (draws : d ≡ (split_lines ledger n).draws) (sampled : s ≡ sum (split_lines ledger n).lines) where
  facts : Settled ledger n (split_lines ledger n)
  facts = split_settles ledger n some

  -- there is a draw to divide by
  pub draws_some : 0 < d
  draws_some = omega (arith, facts.left)

  pub draws_fit : d ≤ n
  draws_fit = omega (arith, facts.used)

  pub total_fits : s ≤ t
  total_fits = omega (arith, at.added, ap sum facts.rest, sum_parts (split_lines ledger n).interval ledger)

  pub figures_are : record { interval = s / d; draws_left = d; sampled_total = s; full_lines = n - d; full_total = t - s }
      ≡ figures_of ledger (split_lines ledger n)
  figures_are =
      let r : Rest = split_lines ledger n in
      let f = facts in
      let many : n - d ≡ length (above r.interval ledger) = omega arith in
      let full : t - s ≡ sum (above r.interval ledger) = omega (arith, at.added, ap sum f.rest, sum_parts r.interval ledger) in
      let final : s / d ≡ r.interval = ap₂ (λ (x y : ℕ). x / y) sampled draws ∙ sym f.final in
      λ i. record { interval = final i; draws_left = draws i; sampled_total = sampled i; full_lines = many i; full_total = full i }
