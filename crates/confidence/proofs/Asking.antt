-- From the first line of a text to its answer, and a byte in the place of a number. Assumes nothing.
use Prim.Native.Nat.{ℕ, ◌≤◌, ◌<◌}
use mathlib.Core.Path.{◌≡◌, sym, ap, subst, ◌∙◌}
use mathlib.Core.List.{List}
use native.Mathlib.Nat.{lt_of_not-le}
use native.Mathlib.Omega.{arith}
use Rattle.std.specs.Result.{OkIff, result_unwrap_or}
use Rattle.std.specs.Prelude.{Result, Ok, Err}
use lib.ListN.{length, take}
use lib.Seq.{length-take-le}
use Rattle.entry.specs.declared.{Numbers.Numbers, Wrong.Wrong}
use Rattle.entry.specs.declared.Run.TheVariants.{Line}
use Rattle.entry.specs.Records.{no_numbers, numbers_from}
use Rattle.entry.specs.Steps.{run_of, Reached, fields_at}
use Rattle.attributes.specs.Attributes.{level_place, tolerance_place, items_of, bound_of}
use Rattle.attributes.proofs.Places.{level_past, tolerance_past, items_by_place, bound_by_place}
use Rattle.pen.specs.Page.{Printed}
use Rattle.sheet.specs.Sheet.{text_by}
use Rattle.confidence.specs.Confidence.{bound_text, statement_text, longest_statement, Stated}
use Rattle.confidence.specs.Line.{StandsFor, asked_of}
use Rattle.confidence.proofs.Writing.{statement_printed}

-- a number above every byte
pub zero_stands : {number : ℕ} → 255 < number → StandsFor number 0
zero_stands past = record { as_level = sym (level_past past); as_tolerance = sym (tolerance_past past) }

-- a number as a byte where it is one, and else 0
pub byte_stands : {E : Type 0} (number : ℕ) (r : Result ℕ E) → OkIff r (number < 256) number → StandsFor number (result_unwrap_or r 0)
byte_stands number (Ok byte) told = record { as_level = ap level_place told.1; as_tolerance = ap tolerance_place told.1 }
byte_stands number (Err e) told = zero_stands (lt_of_not-le (λ l. told (omega arith)))

-- the bytes have the statement of their numbers
module _ {level tolerance level-byte tolerance-byte : ℕ} (a : StandsFor level level-byte) (b : StandsFor tolerance tolerance-byte) (exceptions : ℕ) where
  same_statement : statement_text level-byte tolerance-byte exceptions ≡ statement_text level tolerance exceptions
  unfolding statement_text
  same_statement =
      let sized : items_of level-byte tolerance-byte ≡ items_of level tolerance = items_by_place _ _ _ _ a.as_level b.as_tolerance in
      let bounded : bound_of level-byte tolerance-byte exceptions ≡ bound_of level tolerance exceptions = bound_by_place _ _ _ _ a.as_level b.as_tolerance exceptions in
      λ i. text_by (λ items. bound_text items exceptions (bounded i)) (sized i)

  pub numbers_printed : {page page' : List ℕ} {r : ℕ} → longest_statement ≤ length page → Stated page 0 (statement_text level-byte tolerance-byte exceptions) page' r →
      Printed (statement_text level tolerance exceptions) page r page'
  numbers_printed {page} {page'} {r} room w =
      subst (λ (text : List ℕ). Printed text page r page') same_statement (statement_printed _ _ _ room w)

-- the line ends where its run does
pub line_long : {text : List ℕ} {end : ℕ} → Reached Line text 0 end → end ≡ length (take end text)
line_long {text} {end} run = sym (length-take-le end text run.within)

pub first_asked : {text : List ℕ} {end : ℕ} {r : Result Numbers Wrong} → Reached Line text 0 end → r ≡ numbers_from 3 no_numbers (fields_at (take end text) 0) → r ≡ asked_of text
unfolding asked_of
first_asked {text} {end} run e =
    let ends : end ≡ run_of Line text = omega (arith, run.same) in
    e ∙ ap (λ (k : ℕ). numbers_from 3 no_numbers (fields_at (take k text) 0)) ends
