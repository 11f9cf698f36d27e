-- The text of an answer, by its case. Assumes nothing.
use Prim.Native.Nat.{ℕ, ◌≤◌, ◌<◌}
use mathlib.Core.Path.{◌≡◌, refl, sym, ap, ◌∙◌}
use mathlib.Core.List.{List, [], ◌∷◌, ◌++◌}
use borrow.Author.Tests.{lt-ltb, le-ltb}
use lib.IntN.{ℤ}
use lib.ListN.{take}
use mir.Syntax.{w64}
use mir.Val.{SFits}
use Rattle.signed.proofs.Signs.{held, kept}
use Rattle.pen.specs.Letters.{letters}
use Rattle.pen.specs.Text.{signed_text, fields}
use Rattle.pen.specs.Page.{Wrote}
use Rattle.pen.proofs.Writing.{as_text, after_space}
use Rattle.answers.specs.declared.Rest.{Rest}
use Rattle.answers.specs.declared.Rest.TheVariants.{Judged}
use Rattle.answers.specs.Answers.{figures_text, rest_text, answer_text, verdict_text}

module _ (count : ℕ) (figures : List ℕ) where
  pub first_figures : figures_text count figures ≡ fields (take count figures)
  unfolding figures_text
  first_figures = refl

  module _ (refusal place : ℕ) (rest : Rest) where
    pub refused_text : 0 < refusal → answer_text refusal place count figures rest ≡ letters " refused" ++ fields (refusal ∷ place ∷ [])
    unfolding answer_text
    refused_text h = rw (lt-ltb 0 refusal h)

    pub figures_text_lem : refusal ≤ 0 → answer_text refusal place count figures rest ≡ figures_text count figures ++ rest_text rest
    unfolding answer_text
    figures_text_lem h = rw (le-ltb 0 refusal h)

-- what follows the figures of a judgement; a number with a sign is read back from its bits
module _ {o o' : List ℕ} {a a' : ℕ} where
  pub judged_put : {rest : Rest} {net : ℤ} {precision limit verdict : ℕ} → rest ≡ Judged net precision limit verdict → SFits w64 net
      → Wrote o a ((32 ∷ signed_text (held net)) ++ fields (precision ∷ limit ∷ []) ++ verdict_text verdict) o' a' → Wrote o a (rest_text rest) o' a'
  unfolding rest_text
  judged_put {precision = precision} {limit = limit} {verdict = verdict} is fits told =
      as_text
      (ap rest_text is ∙ ap (λ (e : ℤ). (32 ∷ signed_text e) ++ fields (precision ∷ limit ∷ []) ++ verdict_text verdict) (sym (kept _ fits.sfits)))
      told

pub net_laid : {o o' o'' : List ℕ} {a a' a'' : ℕ} (net : ℤ) → SFits w64 net → Wrote o a (32 ∷ []) o' a' → Wrote o' a' (signed_text (held net)) o'' a''
    → Wrote o a (32 ∷ signed_text net) o'' a''
net_laid net fits parted told = after_space parted (as_text (ap signed_text (sym (kept net fits.sfits))) told)
