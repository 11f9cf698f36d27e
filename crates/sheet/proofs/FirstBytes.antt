-- The text of an input is decided by its first 45,665 bytes, so the desk program may leave any others unread. Assumes nothing.
use Prim.Native.Nat.{ℕ}
use native.Mathlib.Omega.{arith}
use mathlib.Core.Path.{◌≡◌, sym, ap, ◌∙◌}
use mathlib.Core.Bool.{Bool, true, false}
use mathlib.Core.List.{List}
use lib.Dec.{eqb}
use lib.ListN.{take, drop}
use lib.Seq.{get_or-take, take-take}
use Rattle.terms.specs.Numbers.{pick}
use Rattle.workfile.proofs.Records.{drop_take}
use Rattle.workfile.proofs.Longest.{first_decide}
use Rattle.sheet.specs.Sheet.{text_by, content_text, sheet_text, by_board, desk_text}
use Rattle.sheet.proofs.Inputs.{file_is}

-- a file by its first 45,664 bytes, and so by any more of them
file_bytes : (file : List ℕ) → sheet_text file ≡ sheet_text (take 45664 file)
unfolding sheet_text
file_bytes file = ap (text_by content_text) (first_decide file)

by_method : (input : List ℕ) (b : Bool) → sheet_text (pick b (drop 1 input) input) ≡ sheet_text (pick b (drop 1 (take 45665 input)) (take 45665 input))
by_method input true = file_bytes (drop 1 input) ∙ ap sheet_text (sym (drop_take 1 45665 input))
by_method input false = file_bytes input ∙ ap sheet_text (sym (take-take 45664 45665 input (omega arith))) ∙ sym (file_bytes (take 45665 input))

pub first_bytes : (input : List ℕ) → desk_text input ≡ desk_text (take 45665 input)
unfolding desk_text
first_bytes input =
    ap sheet_text (file_is input)
    ∙ by_method input (by_board input)
    ∙ ap (λ (x : ℕ). sheet_text (pick (eqb x 0x42) (drop 1 (take 45665 input)) (take 45665 input))) (sym (get_or-take 45665 input 0 0 (omega arith)))
    ∙ sym (ap sheet_text (file_is (take 45665 input)))
