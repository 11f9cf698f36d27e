-- The statement as the code writes it, and how long it is at most. Assumes nothing.
use Prim.Native.Nat.{ℕ, ◌/◌, ◌%◌, ◌≤◌}
use Rattle.std.specs.Prelude.{Result, Ok, Err}
use Rattle.terms.specs.Outcome.{says}
use mathlib.Core.Path.{◌≡◌, sym, ap, ◌∙◌}
use mathlib.Core.List.{List, [], ◌∷◌, ◌++◌}
use native.Mathlib.Omega.{arith}
use lib.ListN.{length, length-append}
use Rattle.terms.specs.declared.Refusal.{Refusal}
use Rattle.terms.specs.Refusals.{number, place}
use Rattle.pen.specs.Letters.{letters}
use Rattle.pen.specs.Text.{decimal, fields, more}
use Rattle.pen.specs.Page.{Wrote, Printed}
use Rattle.pen.proofs.Decimals.{decimal_length}
use Rattle.pen.proofs.Lengths.{Small, words_short}
use Rattle.pen.proofs.Writing.{◌⨾◌, as_text, after_space, words_laid, printed}
use Rattle.sheet.specs.Lines.{refused_line}
use Rattle.attributes.specs.Attributes.{ItemsPromise, BoundPromise}
use Rattle.confidence.specs.Confidence.{percent_text, statement_line, bound_text, items_text, statement_text, longest_statement, Stated}

-- a statement that is another, as text
stated_as : {o o' x y : List ℕ} {a a' : ℕ} → y ≡ x → Stated o a x o' a' → Stated o a y o' a'
stated_as e s = record { wrote = as_text e s.wrote; short = omega (arith, ap length e, s.short) }

pub percent_laid : (h : ℕ) {o p q r s : List ℕ} {a b c d e : ℕ} → Wrote o a (decimal (h / 100)) p b → Wrote p b (46 ∷ []) q c → Wrote q c (decimal (h % 100 / 10)) r d → Wrote r d (decimal (h % 10)) s e →
    Wrote o a (percent_text h) s e
unfolding percent_text
percent_laid h v w x y = v ⨾ (w ⨾ (x ⨾ y))

percent_short : (h : ℕ) → Small h → length (percent_text h) ≤ 23
unfolding percent_text
percent_short h small =
    omega (
      arith,
      length-append (decimal (h / 100)) (46 ∷ (decimal (h % 100 / 10) ++ decimal (h % 10))),
      length-append (decimal (h % 100 / 10)) (decimal (h % 10)),
      decimal_length 19 (h / 100) (omega arith),
      decimal_length 0 (h % 100 / 10) (omega arith),
      decimal_length 0 (h % 10) (omega arith),
    )

pub end_laid : (h : ℕ) {o p q r : List ℕ} {a b c d : ℕ} → Wrote o a (32 ∷ []) p b → Wrote p b (percent_text h) q c → Wrote q c (10 ∷ []) r d → Wrote o a (more (percent_text h ∷ [])) r d
end_laid h v w x = after_space v (w ⨾ x)

pub record SmallFigures (items exceptions h : ℕ) : Type 0 where
  pub of_items : Small items
  pub of_exceptions : Small exceptions
  pub of_bound : Small h

pub statement_laid : (items exceptions h : ℕ) {o p q r : List ℕ} {a b c d : ℕ} → SmallFigures items exceptions h → Wrote o a (letters "statement") p b →
    Wrote p b (fields (items ∷ exceptions ∷ [])) q c → Wrote q c (more (percent_text h ∷ [])) r d → Stated o a (statement_line items exceptions h) r d
unfolding statement_line
statement_laid items exceptions h small u v w =
    record {
      wrote = words_laid (items ∷ exceptions ∷ []) (percent_text h ∷ []) u v w;
      short =
          omega (
            arith,
            words_short (letters "statement") (items ∷ exceptions ∷ []) (percent_text h ∷ []) (small.of_items, (small.of_exceptions, tt)),
            length-append (percent_text h) (10 ∷ []),
            percent_short h small.of_bound,
          );
    }

-- the line of a refusal is shorter
pub refused_stated : (why : Refusal) {o o' : List ℕ} {a a' : ℕ} → Wrote o a (refused_line (number why) (place why)) o' a' × (length (refused_line (number why) (place why)) ≤ 50) →
    Stated o a (refused_line (number why) (place why)) o' a'
refused_stated why w = record { wrote = w.0; short = omega (arith, w.1) }

module _ (level tolerance exceptions : ℕ) {answer : Result ℕ Refusal} (m : ItemsPromise level tolerance answer) where
  text_is : statement_text level tolerance exceptions ≡ items_text level tolerance exceptions (says answer)
  unfolding statement_text
  text_is = ap (items_text level tolerance exceptions) (sym m.answer)

  pub items_refused : (why : Refusal) {o o' : List ℕ} {a a' : ℕ} → answer ≡ Err why →
      Wrote o a (refused_line (number why) (place why)) o' a' × (length (refused_line (number why) (place why)) ≤ 50) → Stated o a (statement_text level tolerance exceptions) o' a'
  items_refused why is w = stated_as (text_is ∙ ap (λ (b : Result ℕ Refusal). items_text level tolerance exceptions (says b)) is) (refused_stated why w)

  pub items_stated : (items : ℕ) {found : Result ℕ Refusal} {o o' : List ℕ} {a a' : ℕ} → answer ≡ Ok items → BoundPromise level tolerance exceptions found →
      Stated o a (bound_text items exceptions (says found)) o' a' → Stated o a (statement_text level tolerance exceptions) o' a'
  items_stated items is b w =
      stated_as (text_is ∙ ap (λ (x : Result ℕ Refusal). items_text level tolerance exceptions (says x)) is ∙ ap (bound_text items exceptions) (sym b.answer)) w

pub statement_printed : (level tolerance exceptions : ℕ) {page page' : List ℕ} {r : ℕ} → longest_statement ≤ length page → Stated page 0 (statement_text level tolerance exceptions) page' r →
    Printed (statement_text level tolerance exceptions) page r page'
statement_printed level tolerance exceptions room w = printed _ _ _ _ (omega (arith, w.short)) w.wrote
