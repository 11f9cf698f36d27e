-- The text of the steps' outcome, and the page that is too short and the one that is not. Assumes nothing.
use Prim.Native.Nat.{ℕ, ◌+◌, ◌*◌, ◌≤◌, ◌<◌}
use Rattle.std.specs.Prelude.{Result, Ok, Err}
use native.Mathlib.Omega.{arith}
use mathlib.Core.Path.{◌≡◌, sym, ap, ◌∙◌}
use mathlib.Core.List.{List, ◌++◌}
use borrow.Author.Tests.{lt-ltb, le-ltb}
use lib.IntN.{ℤ}
use lib.ListN.{length, drop}
use Rattle.terms.specs.declared.Refusal.{Refusal}
use Rattle.terms.specs.declared.Refusal.TheVariants.{RoomTooShort}
use Rattle.terms.specs.Refusals.{number, place}
use Rattle.terms.specs.Outcome.{Outcome, accepted, refused, left, says}
use Rattle.pen.specs.Page as Page
use Rattle.pen.proofs.Writing.{as_text}
use Rattle.workfile.specs.declared.Plan.{Plan}
use Rattle.steps.specs.declared.Answers.{Answers}
use Rattle.steps.specs.Steps.{steps_of, StepsPromise, Shown}
use Rattle.steps.proofs.Accepted.{steps_shown, steps_early}
use Rattle.sheet.specs.Lines.{answers_text, refused_line}
use Rattle.sheet.specs.Sheet.{text_by, steps_text, desk_text, longest_text, sheet_of, SheetPromise}

-- a text that was written is the one that is asked for, and no longer than that may be
pub as_bounded : {o o' x y : List ℕ} {a a' most more : ℕ} → y ≡ x → most ≤ more → Page.Wrote o a x o' a' × (length x ≤ most) → Page.Wrote o a y o' a' × (length y ≤ more)
as_bounded e h w = (as_text e w.0, omega (arith, ap length e, w.1))

steps_text_lem : (plan : Plan) (words ledger : List ℕ) (errors : List ℤ) {o : Outcome Answers} → o ≡ steps_of plan words ledger errors →
    steps_text plan words ledger errors ≡ text_by (answers_text ledger errors) o
unfolding steps_text
steps_text_lem plan words ledger errors e = ap (text_by (answers_text ledger errors)) (sym e)

-- as `print_content` meets the steps: what it prints of a refusal and of an answer, and what an answer has shown
module _ (plan : Plan) (words ledger : List ℕ) (errors : List ℤ) {r : Result Answers Refusal} where
  pub content_refused : {why : Refusal} {o o' : List ℕ} {a a' : ℕ} → r ≡ Err why → StepsPromise plan words ledger errors r →
      Page.Wrote o a (refused_line (number why) (place why)) o' a' × (length (refused_line (number why) (place why)) ≤ 50) →
      Page.Wrote o a (steps_text plan words ledger errors) o' a' × (length (steps_text plan words ledger errors) ≤ 464 + 90 * length ledger)
  content_refused is p w = as_bounded (steps_text_lem plan words ledger errors (sym (ap says is) ∙ p.answer)) (omega arith) w

  pub content_answered : {answers : Answers} {o o' : List ℕ} {a a' : ℕ} → r ≡ Ok answers → StepsPromise plan words ledger errors r →
      Page.Wrote o a (answers_text ledger errors answers) o' a' × (length (answers_text ledger errors answers) ≤ 464 + 90 * length ledger) →
      Page.Wrote o a (steps_text plan words ledger errors) o' a' × (length (steps_text plan words ledger errors) ≤ 464 + 90 * length ledger)
  content_answered is p w = as_bounded (steps_text_lem plan words ledger errors (sym (ap says is) ∙ p.answer)) (omega arith) w

  pub content_shown : {answers : Answers} → r ≡ Ok answers → StepsPromise plan words ledger errors r →
      Shown 0 answers.figures.interval ledger errors × (answers.chosen.start ≤ answers.figures.interval)
  content_shown is p =
      let e = sym (ap says is) ∙ p.answer in
      (steps_shown plan words ledger errors _ e, steps_early plan words ledger errors _ e)

module _ (input page : List ℕ) where
  short : length page < longest_text → sheet_of input (length page) ≡ refused 18 longest_text
  unfolding sheet_of
  short h = simp (lt-ltb _ _ h)

  long : longest_text ≤ length page → sheet_of input (length page) ≡ accepted (length (desk_text input))
  unfolding sheet_of
  long h = simp (le-ltb _ _ h)

  pub page_short : length page < longest_text → SheetPromise input page (Err (RoomTooShort longest_text)) page
  page_short h =
      record { answer = sym (short h); page_left = sym (ap (left (λ bytes. desk_text input ++ drop bytes page) page) (short h)) }

  pub page_long : longest_text ≤ length page → (r : ℕ) (page' : List ℕ) → Page.Printed (desk_text input) page r page' → SheetPromise input page (Ok r) page'
  page_long h r page' p =
      record {
        answer = ap accepted p.counted ∙ sym (long h);
        page_left = p.whole ∙ sym (ap (left (λ bytes. desk_text input ++ drop bytes page) page) (long h));
      }
