-- A fault's line in its parts. Assumes nothing.
use Prim.Native.Nat.{ℕ}
use mathlib.Core.Path.{◌≡◌, sym}
use mathlib.Core.List.{List, [], ◌∷◌}
use Rattle.pen.specs.Letters.{letters}
use Rattle.pen.specs.Text.{decimal}
use Rattle.pen.specs.Page.{Wrote}
use Rattle.pen.proofs.Writing.{◌⨾◌, as_text}
use Rattle.entry.specs.declared.Notation.{Notation}
use Rattle.notation.specs.declared.Fault.{Fault}
use Rattle.faults.specs.Faults.{wrong_words, fault_text}

pub fault_laid : (by : Notation) (fault : Fault) {o o₁ o₂ o₃ o₄ o₅ words : List ℕ} {a a₁ a₂ a₃ a₄ a₅ : ℕ} → Wrote o a (letters "line ") o₁ a₁
    → Wrote o₁ a₁ (decimal fault.line) o₂ a₂ → Wrote o₂ a₂ (letters ": ") o₃ a₃ → words ≡ wrong_words by fault.wrong → Wrote o₃ a₃ words o₄ a₄
    → Wrote o₄ a₄ (10 ∷ []) o₅ a₅ → Wrote o a (fault_text by fault) o₅ a₅
fault_laid by fault opened numbered parted its said ended = (opened ⨾ numbered ⨾ parted) ⨾ as_text (sym its) said ⨾ ended
