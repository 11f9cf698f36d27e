-- The file of an input, with the byte 0x42 before it and without, as `by_board` and `print_input` meet it. Assumes nothing.
use Prim.Native.Nat.{ℕ, ◌-◌, ◌≤◌}
use native.Mathlib.Omega.{arith}
use mathlib.Core.Path.{◌≡◌, refl, sym, ap, ◌∙◌}
use mathlib.Core.Bool.{Bool, true, false}
use mathlib.Core.List.{List, [], ◌∷◌}
use borrow.Author.Tests.{eqb-true}
use lib.ListN.{length, get_or, take, drop, length-drop}
use lib.Seq.{take_all}
use Rattle.terms.specs.Numbers.{pick}
use Rattle.pen.specs.Page.{Wrote}
use Rattle.sheet.specs.Sheet.{sheet_text, by_board, file_of, desk_text, longest_text}
use Rattle.sheet.proofs.Paging.{as_bounded}

-- what follows the byte, or the whole input
pub file_is : (input : List ℕ) → file_of input ≡ pick (by_board input) (drop 1 input) input
unfolding file_of
file_is input = refl

-- an input without bytes is no board's
pub no_byte : (input : List ℕ) → length input ≡ 0 → false ≡ by_board input
no_byte [] none = refl
no_byte (b ∷ bs) none = absurd (omega (arith, none))

some_byte : (input : List ℕ) → get_or input 0 0 ≡ 0x42 → 1 ≤ length input
some_byte [] e = absurd (omega (arith, e))
some_byte (b ∷ bs) e = omega arith

-- what the test has told
module _ (input : List ℕ) {told : Bool} (is : told ≡ by_board input) where
  pub byte_there : told ≡ true → 1 ≤ length input
  byte_there by = some_byte input (eqb-true (get_or input 0 0) 0x42 (sym is ∙ by))

  pub after_byte : told ≡ true → desk_text input ≡ sheet_text (take (length input - 1) (drop 1 input))
  unfolding desk_text
  after_byte by =
      let b : by_board input ≡ true = sym is ∙ by in
      let rest : pick (by_board input) (drop 1 input) input ≡ drop 1 input = rw b refl in
      ap sheet_text (file_is input ∙ rest ∙ sym (take_all (length input - 1) (drop 1 input) (omega (arith, length-drop 1 input))))

  pub whole_file : told ≡ false → desk_text input ≡ sheet_text input
  unfolding desk_text
  whole_file by =
      let b : by_board input ≡ false = sym is ∙ by in
      let whole : pick (by_board input) (drop 1 input) input ≡ input = rw b refl in
      ap sheet_text (file_is input ∙ whole)

  module _ {o o' : List ℕ} {a a' : ℕ} where
    pub board_printed : told ≡ true → let file = take (length input - 1) (drop 1 input) in
        Wrote o a (sheet_text file) o' a' × (length (sheet_text file) ≤ longest_text) → Wrote o a (desk_text input) o' a' × (length (desk_text input) ≤ longest_text)
    board_printed by w = as_bounded (after_byte by) (omega arith) w

    pub whole_printed : told ≡ false → Wrote o a (sheet_text input) o' a' × (length (sheet_text input) ≤ longest_text) →
        Wrote o a (desk_text input) o' a' × (length (desk_text input) ≤ longest_text)
    whole_printed by w = as_bounded (whole_file by) (omega arith) w
