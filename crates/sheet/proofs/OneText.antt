-- The promise of `sheet_in` leaves no freedom: any two results that meet it agree. Assumes nothing.
use Prim.Native.Nat.{ℕ}
use mathlib.Core.Path.{◌≡◌, sym, ◌∙◌}
use mathlib.Core.List.{List}
use Rattle.std.specs.Prelude.{Result}
use Rattle.terms.specs.declared.Refusal.{Refusal}
use Rattle.terms.proofs.Answers.{says_once}
use Rattle.sheet.specs.Sheet.{SheetPromise}

pub sheet_once : {file page page₁ page₂ : List ℕ} {r₁ r₂ : Result ℕ Refusal} → SheetPromise file page r₁ page₁ → SheetPromise file page r₂ page₂ → (r₁ ≡ r₂) × (page₁ ≡ page₂)
sheet_once {r₁ = r₁} {r₂ = r₂} p q = (says_once r₁ r₂ p.answer q.answer, p.page_left ∙ sym q.page_left)
