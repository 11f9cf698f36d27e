-- While a summary agrees and its ledger is within its limits, a change and an append within theirs are taken, never refused by 31, and the new grand
-- total is that of the lines. Assumes nothing.
use Prim.Native.Nat.{ℕ, ◌+◌, ◌*◌, ◌-◌, ◌/◌, ◌%◌, ◌^◌, ◌≤◌, ◌<◌}
use mathlib.Core.Path.{◌≡◌, refl, sym, ap, ◌∙◌}
use mathlib.Core.List.{List}
use native.Mathlib.Omega.{arith}
use lib.ListN.{length, get_or, take, drop, set}
use lib.Seq.{length-take-le, take-set-lt, get_or-take, get_or-drop}
use Rattle.terms.specs.Outcome.{accepted}
use Rattle.terms.specs.Numbers.{sum}
use Rattle.terms.specs.Limits.{most_lines, most_value, most_total}
use Rattle.terms.proofs.Sums.{one_of_sum}
use Rattle.totals.specs.Summary.{blocks, block_from, in_use, Agrees}
use Rattle.totals.proofs.Shapes.{right_shape, block_within}
use Rattle.totals.proofs.Loops.{block_small}
use Rattle.totals.proofs.Agreeing.{sum_set}
use Rattle.upkeep.specs.declared.NewFigures.{NewFigures}
use Rattle.upkeep.specs.Upkeep.{figure_moved, new_figures, both_moved, change_of, most_before, append_of}
use Rattle.upkeep.proofs.Moves.{moved_to, both_told, value_fine, changed_moved, appended_moved}
use Rattle.upkeep.proofs.Steps.{change_seen, append_seen}
use Rattle.upkeep.proofs.Keeping.{changed}

-- a line is no more than its block
line_part : (room : List ℕ) (count line : ℕ) → line < count → get_or room line 0 ≤ sum (block_from (line / 256 * 256) (in_use room count))
unfolding block_from
line_part room count line h =
    let l = in_use room count in
    let from = line / 256 * 256 in
    let old : get_or l line 0 ≡ get_or room line 0 = get_or-take count room line 0 h in
    let rest : from + line % 256 ≡ line = omega arith in
    let there : get_or (take 256 (drop from l)) (line % 256) 0 ≡ get_or l line 0 =
    get_or-take 256 (drop from l) (line % 256) 0 (omega arith) ∙ get_or-drop from l (line % 256) 0 ∙ ap (λ (m : ℕ). get_or l m 0) rest in
    omega (arith, there, old, one_of_sum (take 256 (drop from l)) (line % 256))

moved_fine : (block figure old value : ℕ) → old ≤ figure → figure + value < 2 ^ 64 + old → accepted (figure + value - old) ≡ figure_moved block figure old value
moved_fine block figure old value low high = moved_to block figure old value (figure + value - old) (omega arith) high refl

both_fine : (line value old many figure grand : ℕ) → old ≤ figure → figure ≤ grand → grand + value < 2 ^ 64 + old →
    accepted (new_figures (figure + value - old) (grand + value - old)) ≡ both_moved line value old many figure grand
both_fine line value old many figure grand low part high =
    both_told line value old many figure grand (figure + value - old) (grand + value - old) (moved_fine (line / 256) figure old value low (omega arith)) (moved_fine many grand old value (omega arith) high)

module _ (room : List ℕ) (count : ℕ) (summary : List ℕ) (agrees : Agrees room count summary) where
  -- the figure of a line's block
  figure_low : (line : ℕ) → line < count → line < length room → get_or room line 0 ≤ get_or summary (line / 256) 0
  figure_low line h inside = omega (arith, line_part room count line h, agrees.figures (line / 256) (block_within (length room) line inside))

  figure_high : (line : ℕ) → line < length room → get_or summary (line / 256) 0 ≤ get_or summary (blocks (length room)) 0
  figure_high line inside =
      omega (arith, agrees.figures (line / 256) (block_within (length room) line inside), agrees.grand, block_small (line / 256 * 256) (in_use room count))

  -- the new grand total is that of the changed lines
  pub change_total : (line value : ℕ) (new : NewFigures) → change_of room count summary line value ≡ accepted new → new.grand ≡ sum (in_use (set room line value) count)
  change_total line value new e =
      let c = changed room count summary line value new e in
      let used = c.used in
      let old = get_or-take count room line 0 used in
      let lines : in_use (set room line value) count ≡ set (in_use room count) line value = take-set-lt count room line value used in
      omega (arith, c.moves.second, agrees.grand, old, ap sum lines, sum_set (in_use room count) line value (omega (arith, length-take-le count room c.within)))

  -- a change whose value and whose total are within their limits is made
  pub change_taken : count ≤ most_lines → count ≤ length room → (line value : ℕ) → line < count → value ≤ most_value →
      sum (in_use room count) + value ≤ most_total + get_or room line 0 → (new : NewFigures) × (change_of room count summary line value ≡ accepted new)
  change_taken few inside line value used small total =
      let n = blocks (length room) in
      let old = get_or room line 0 in
      let f = get_or summary (line / 256) 0 in
      let g = get_or summary n 0 in
      let within : line < length room = omega arith in
      let shape = right_shape most_lines count (length room) (length summary) few inside agrees.long in
      let both = both_fine line value old n f g (figure_low line used within) (figure_high line within) (omega (arith, agrees.grand)) in
      let judged = value_fine line value old g small (omega (arith, agrees.grand)) in
      let new = new_figures (f + value - old) (g + value - old) in
      (new, sym (change_seen room count n summary line value shape used (changed_moved line value old n f g judged both)))

  -- and so is an append where there is room
  pub append_taken : count < most_lines → count < length room → (value : ℕ) → value ≤ most_value → sum (in_use room count) + value ≤ most_total →
      (new : NewFigures) × (append_of room count summary value ≡ accepted new)
  append_taken few inside value small total =
      let n = blocks (length room) in
      let f = get_or summary (count / 256) 0 in
      let g = get_or summary n 0 in
      let shape = right_shape most_before count (length room) (length summary) (omega arith) (omega arith) agrees.long in
      let both = both_fine count value 0 n f g (omega arith) (figure_high count inside) (omega (arith, agrees.grand)) in
      let judged = value_fine count value 0 g small (omega (arith, agrees.grand)) in
      let new = new_figures (f + value - 0) (g + value - 0) in
      (new, sym (append_seen room count n summary shape value (appended_moved count (length room) value n f g judged inside both)))
