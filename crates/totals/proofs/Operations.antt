-- Building, finding and the check from their parts, where the shape is accepted. Assumes nothing.
use Prim.Native.Nat.{ℕ, ◌^◌, ◌≤◌, ◌<◌}
use Rattle.std.specs.Prelude.{Option, Ok}
use mathlib.Core.Path.{◌≡◌, sym, ap, ◌∙◌}
use mathlib.Core.List.{List, [], ◌∷◌, ◌++◌}
use native.Mathlib.Omega.{arith}
use borrow.Author.Tests.{lt-ltb, le-ltb}
use lib.ListN.{length, get_or, take}
use Rattle.terms.specs.Outcome.{Outcome, accepted, refused, after, left}
use Rattle.terms.specs.Numbers.{sum}
use Rattle.terms.specs.Limits.{most_lines}
use Rattle.ledger.specs.Ledger.{running_total}
use Rattle.ledger.proofs.Laws.{running_added}
use Rattle.totals.specs.Summary.{blocks, block_totals, in_use, summary_for, built_summary, shape_of, build_of, BuildPromise, Fillable}
use Rattle.totals.specs.Lookup.{block_in, find_in, find_of}
use Rattle.totals.specs.Comparison.{first_wrong, compared_of, CheckPromise}
use Rattle.totals.proofs.Shapes.{judged_shape, blocks_few}

module _ (room : List ℕ) (count many : ℕ) (summary : List ℕ) (shape : accepted many ≡ shape_of most_lines count (length room) (length summary)) where
  -- the line, from the figures as they stand
  found : (cent : ℕ) → find_in many (in_use room count) summary cent ≡ find_of room count summary cent
  unfolding find_of
  found cent = ap (after (λ many. find_in many (in_use room count) summary cent)) shape

  pub cent_past : (cent : ℕ) → get_or summary many 0 ≤ cent → refused 20 0 ≡ find_of room count summary cent
  unfolding find_in
  cent_past cent h = let f = found cent in simp (le-ltb _ _ h) at f

  pub cent_below : (cent : ℕ) → cent < get_or summary many 0 → block_in 0 cent (take many summary) (in_use room count) ≡ find_of room count summary cent
  unfolding find_in
  cent_below cent h = let f = found cent in simp (lt-ltb _ _ h) at f

  -- the summary that the loops write, and compare with
  module _ (total : ℕ) (lines : accepted total ≡ running_total (in_use room count)) where
    pub fillable : length room < 2 ^ 64 → Fillable (in_use room count) many summary
    fillable wide =
        let known = running_added (sym lines) in
        let is = judged_shape shape in
        record { fits = is.long; few = omega (arith, is.are, blocks_few (length room) wide); small = omega (arith, known.sums, known.most) }

    all_figures : block_totals many (in_use room count) ++ (total ∷ []) ≡ summary_for room count
    unfolding summary_for
    all_figures =
        let known = running_added (sym lines) in
        let same : total ≡ sum (in_use room count) = omega (arith, known.sums) in
        ap (λ (n : ℕ). block_totals n (in_use room count) ++ (total ∷ [])) (judged_shape shape).are
        ∙ ap (λ (n : ℕ). block_totals (blocks (length room)) (in_use room count) ++ (n ∷ [])) same

    pub build_built : {summary' : List ℕ} → summary' ≡ block_totals many (in_use room count) ++ (total ∷ []) → BuildPromise room count summary (Ok total) summary'
    unfolding build_of built_summary
    build_built e =
        let told : accepted total ≡ build_of room count (length summary) = lines ∙ ap (after (λ many. running_total (in_use room count))) shape in
        record { answer = told; summary_left = e ∙ all_figures ∙ ap (left (built_summary room count) summary) told }

    pub check_done : {r : Option ℕ} → r ≡ first_wrong 0 (block_totals many (in_use room count) ++ (total ∷ [])) summary → CheckPromise room count summary (Ok r)
    unfolding compared_of
    check_done e =
        let compare : ℕ → Outcome (Option ℕ) = λ total. accepted (first_wrong 0 (summary_for room count) summary) in
        record {
          answer =
              ap accepted (e ∙ ap (λ (l : List ℕ). first_wrong 0 l summary) all_figures)
              ∙ ap (after compare) lines
              ∙ ap (after (λ many. after compare (running_total (in_use room count)))) shape;
        }
