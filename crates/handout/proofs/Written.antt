-- The lines of the sheet as the code writes them, part after part. Assumes nothing.
use Prim.Native.Nat.{ℕ}
use mathlib.Core.Path.{◌≡◌, sym, ap}
use mathlib.Core.List.{List, [], ◌∷◌, map}
use lib.IntN.{ℤ}
use lib.ListN.{length}
use mir.Syntax.{w64}
use mir.Val.{SFits}
use Rattle.terms.specs.Numbers.{sum}
use Rattle.signed.proofs.Signs.{held, kept}
use Rattle.pen.specs.Letters.{letters}
use Rattle.pen.specs.Text.{decimal, signed_text, fields, more, line}
use Rattle.pen.specs.Page.{Wrote}
use Rattle.pen.proofs.Writing.{as_text, words_laid}
use Rattle.strata.specs.declared.Row.{Row}
use Rattle.stratified.specs.declared.projection.ProjectedStrata.{ProjectedStrata}
use Rattle.handout.specs.Lines.{stratum_line, all_line}

module _ {page : List ℕ} {at : ℕ} where
  -- a stratum's line, with the book value that was added up
  pub stratum_written : (number : ℕ) (part : List ℕ) (row : Row) (start words : ℕ) {book : ℕ} {page' : List ℕ} {at' : ℕ} → book ≡ sum part →
      Wrote page at
      (line
      (letters "stratum"
      ∷ map decimal
      (number ∷ length part ∷ book ∷ row.draws ∷ row.figures.interval ∷ row.figures.draws_left ∷ row.figures.sampled_total ∷ row.figures.full_lines ∷ row.figures.full_total ∷ start ∷ words ∷ [])))
      page' at' → Wrote page at (stratum_line number part row start words) page' at'
  stratum_written number part row start words is w =
      as_text (ap (λ (b : ℕ). line
      (letters "stratum"
      ∷ map decimal
      (number ∷ length part ∷ b ∷ row.draws ∷ row.figures.interval ∷ row.figures.draws_left ∷ row.figures.sampled_total ∷ row.figures.full_lines ∷ row.figures.full_total ∷ start ∷ words ∷ []))) (sym is)) w

  pub all_written : (sums : ProjectedStrata) {p₁ p₂ p₃ : List ℕ} {a₁ a₂ a₃ : ℕ} → Wrote page at (letters "all") p₁ a₁ → Wrote p₁ a₁ (fields (sums.over ∷ sums.under ∷ [])) p₂ a₂ →
      SFits w64 sums.net → Wrote p₂ a₂ (more (signed_text (held sums.net) ∷ [])) p₃ a₃ → Wrote page at (all_line sums) p₃ a₃
  all_written sums opened summed fits ended =
      words_laid (sums.over ∷ sums.under ∷ []) (signed_text sums.net ∷ []) opened summed
      (as_text (ap (λ (net : ℤ). more (signed_text net ∷ [])) (sym (kept sums.net fits.sfits))) ended)
