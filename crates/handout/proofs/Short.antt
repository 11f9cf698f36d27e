-- How long the lines of the sheet are at most, where every number fits 64 bits. Assumes nothing.
use Prim.Native.Nat.{ℕ, ◌≤◌}
use mathlib.Core.List.{List, [], ◌∷◌}
use native.Mathlib.Omega.{arith}
use lib.ListN.{length, length-append}
use mir.Syntax.{w64}
use mir.Val.{SFits}
use Rattle.terms.specs.Numbers.{sum}
use Rattle.signed.proofs.Laws.{held_size}
use Rattle.pen.specs.Letters.{letters}
use Rattle.pen.specs.Text.{signed_text}
use Rattle.pen.proofs.Lengths.{Small, line_short, words_short, signed_short}
use Rattle.sheet.proofs.Room.{SmallFigures}
use Rattle.strata.specs.declared.Row.{Row}
use Rattle.stratified.specs.declared.projection.ProjectionRow.{ProjectionRow}
use Rattle.stratified.specs.declared.projection.ProjectedStrata.{ProjectedStrata}
use Rattle.handout.specs.Lines.{plan_line, stratum_line, sums_line, all_line}

-- the figures fit
pub record SmallRow (row : Row) : Type 0 where
  pub draws : Small row.draws
  pub figures : SmallFigures row.figures

pub record SmallSums (row : ProjectionRow) : Type 0 where
  pub full : Small row.full
  pub sampled : Small row.sampled
  pub under_full : Small row.under_full
  pub under_sampled : Small row.under_sampled

pub plan_short : (draws strata total : ℕ) → Small draws → Small strata → Small total → length (plan_line draws strata total) ≤ 68
plan_short draws strata total hd hs ht = omega (arith, line_short (letters "plan") (draws ∷ strata ∷ total ∷ []) (hd, (hs, (ht, tt))))

pub stratum_short : (number : ℕ) (part : List ℕ) (row : Row) (start words : ℕ) → Small number → Small (length part) → Small (sum part) → SmallRow row → Small start → Small words →
    length (stratum_line number part row start words) ≤ 239
stratum_short number part row start words hn hl hb hr hs hw =
    let f = row.figures in
    let g = hr.figures in
    omega (
      arith,
      line_short (letters "stratum")
          (number ∷ length part ∷ sum part ∷ row.draws ∷ f.interval ∷ f.draws_left ∷ f.sampled_total ∷ f.full_lines ∷ f.full_total ∷ start ∷ words ∷ [])
          (hn, (hl, (hb, (hr.draws, (g.interval, (g.draws_left, (g.sampled_total, (g.full_lines, (g.full_total, (hs, (hw, tt))))))))))),
    )

pub sums_short : (number : ℕ) (row : ProjectionRow) → Small number → SmallSums row → length (sums_line number row) ≤ 110
sums_short number row hn h =
    omega (
      arith,
      line_short (letters "sums") (number ∷ row.full ∷ row.sampled ∷ row.under_full ∷ row.under_sampled ∷ [])
          (hn, (h.full, (h.sampled, (h.under_full, (h.under_sampled, tt))))),
    )

pub all_short : (sums : ProjectedStrata) → Small sums.over → Small sums.under → SFits w64 sums.net → length (all_line sums) ≤ 68
all_short sums ho hu hn =
    omega (
      arith,
      words_short (letters "all") (sums.over ∷ sums.under ∷ []) (signed_text sums.net ∷ []) (ho, (hu, tt)),
      length-append (signed_text sums.net) (10 ∷ []),
      signed_short sums.net (held_size sums.net hn.sfits),
    )
