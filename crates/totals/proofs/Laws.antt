-- Building makes a summary agree with its ledger, and while it agrees the total and the line are those of the ledger alone. Assumes nothing.
use Prim.Native.Nat.{ℕ, ◌*◌, ◌≤◌, ◌<◌}
use mathlib.Core.Path.{◌≡◌, sym, ap, subst, ◌∙◌}
use mathlib.Core.List.{List, [], ◌∷◌}
use mathlib.Core.Logic.{◌↔◌, ⊎_elim}
use native.Mathlib.Omega.{arith}
use lib.ListN.{length, get_or, take, length-take}
use lib.Seq.{take_at}
use Rattle.terms.specs.Outcome.{Outcome, accepted, refused, after, left}
use Rattle.terms.specs.Numbers.{sum}
use Rattle.terms.specs.Limits.{most_lines}
use Rattle.terms.proofs.Outcomes.{never, after_accepted}
use Rattle.terms.proofs.Tests.{le_or_lt}
use Rattle.ledger.specs.Ledger.{running_total}
use Rattle.ledger.proofs.Laws.{running_added}
use Rattle.totals.specs.Summary.{blocks, block_totals, in_use, summary_for, built_summary, Agrees, shape_of, build_of, grand_total_of}
use Rattle.totals.specs.Lookup.{block_in, find_of, line_holding, HoldsCent}
use Rattle.totals.specs.Agreement.{LedgerAlone}
use Rattle.totals.proofs.Shapes.{right_shape, blocks_hold}
use Rattle.totals.proofs.Operations.{cent_below, cent_past}
use Rattle.totals.proofs.Agreeing.{totals_many, built_agrees, agrees_one}
use Rattle.totals.proofs.Holding.{line_holds, line_only, holds_below, finds}

-- building makes it agree, and answers the sum of the lines in use
pub build_agrees : (room : List ℕ) (count : ℕ) (summary : List ℕ) (total : ℕ) → build_of room count (length summary) ≡ accepted total →
    Agrees room count (left (built_summary room count) summary (build_of room count (length summary))) × (total ≡ sum (in_use room count))
unfolding build_of built_summary
build_agrees room count summary total e =
    let a = after_accepted (λ many. running_total (in_use room count)) (shape_of most_lines count (length room) (length summary)) total e in
    let known = running_added a.2 in (
      subst (λ (o : Outcome ℕ). Agrees room count (left (λ t. summary_for room count) summary o)) (sym e) (built_agrees room count),
      omega (arith, known.sums),
    )

-- while it agrees
module _ (room : List ℕ) (count : ℕ) (summary : List ℕ) (agrees : Agrees room count summary) (few : count ≤ most_lines) (inside : count ≤ length room) where
  shape : accepted (blocks (length room)) ≡ shape_of most_lines count (length room) (length summary)
  shape = right_shape most_lines count (length room) (length summary) few inside agrees.long

  total_alone : grand_total_of room count summary ≡ accepted (sum (in_use room count))
  unfolding grand_total_of
  total_alone = sym (ap (after (λ many. accepted (get_or summary many 0))) shape) ∙ ap accepted agrees.grand

  found_alone : (cent : ℕ) → cent < sum (in_use room count) → find_of room count summary cent ≡ accepted (line_holding (in_use room count) cent)
  unfolding summary_for
  found_alone cent h =
      let n = blocks (length room) in
      let l = in_use room count in
      let hold : length l ≤ n * 256 = omega (arith, length-take count room, blocks_hold (length room)) in
      let front : take n summary ≡ block_totals n l = ap (take n) (agrees_one room count summary agrees) ∙ take_at (block_totals n l) (sum l ∷ []) n (totals_many n l) in
      let found : accepted (line_holding l cent) ≡ block_in 0 cent (take n summary) l = sym (finds n l cent h hold) ∙ ap (λ (f : List ℕ). block_in 0 cent f l) (sym front) in
      sym (found ∙ cent_below _ _ _ _ shape cent (omega (arith, agrees.grand)))

  past_alone : (cent : ℕ) → sum (in_use room count) ≤ cent → find_of room count summary cent ≡ refused 20 0
  past_alone cent h = sym (cent_past _ _ _ _ shape cent (omega (arith, agrees.grand)))

  holds_alone : (cent line : ℕ) → (find_of room count summary cent ≡ accepted line) ↔ HoldsCent (in_use room count) cent line
  holds_alone cent line = (
    λ e. ⊎_elim
        (λ (h : sum (in_use room count) ≤ cent). never (sym (past_alone cent h) ∙ e))
        (λ (h : cent < sum (in_use room count)). let found : ◌≡◌ {A = Outcome ℕ} (accepted (line_holding (in_use room count) cent)) (accepted line) = sym (found_alone cent h) ∙ e in
        let same : line_holding (in_use room count) cent ≡ line = cc in
        subst (λ (i : ℕ). HoldsCent (in_use room count) cent i) same (line_holds (in_use room count) cent h))
        (le_or_lt (sum (in_use room count)) cent),
    λ c. found_alone cent (holds_below (in_use room count) cent line c) ∙ ap accepted (sym (line_only (in_use room count) cent line c)),
  )

  pub agrees_alone : LedgerAlone room count summary
  agrees_alone = record { total = total_alone; found = found_alone; past = past_alone; holds = holds_alone }
