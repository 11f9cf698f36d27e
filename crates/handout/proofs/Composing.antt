-- The parts of the sheet, one after the other, and how long it is at most. Assumes nothing.
use Prim.Native.Nat.{ℕ, ◌+◌, ◌*◌, ◌≤◌}
use mathlib.Core.Path.{◌≡◌, sym, ap, ◌∙◌}
use mathlib.Core.Bool.{Bool, true, false}
use mathlib.Core.List.{List, [], ◌++◌}
use native.Mathlib.Omega.{arith}
use lib.IntN.{ℤ}
use lib.ListN.{length, length-append}
use Rattle.terms.specs.Limits.{most_strata}
use Rattle.terms.specs.Numbers.{pick, sum}
use Rattle.pen.specs.Page as Page
use Rattle.pen.proofs.Writing.{◌⨾◌, nothing, as_text}
use Rattle.strata.specs.declared.Row.{Row}
use Rattle.strata.specs.Strata.{parts_of}
use Rattle.stratified.specs.declared.projection.ProjectedStrata.{ProjectedStrata}
use Rattle.sheet.proofs.Paging.{as_bounded}
use Rattle.handout.specs.declared.Answers.{Answers}
use Rattle.handout.specs.Lines.{plan_line, strata_text, drawn_text, sums_text, all_line, any_error, closing_text, errors_text, answers_text}
use Rattle.handout.specs.Handout.{longest_for}
use Rattle.handout.specs.Shows.{Shows}
use Rattle.handout.proofs.Loops.{drawn_short}

module _ (strata : ℕ) (errors : List ℤ) (sums : ProjectedStrata) {any : Bool} (told : any ≡ any_error errors) where
  pub errors_some : {o o₁ o₂ : List ℕ} {a a₁ a₂ : ℕ} → any ≡ true → Page.Wrote o a (sums_text strata 0 sums.rows) o₁ a₁ × (length (sums_text strata 0 sums.rows) ≤ 110 * strata) →
      Page.Wrote o₁ a₁ (all_line sums) o₂ a₂ × (length (all_line sums) ≤ 68) → Page.Wrote o a (errors_text strata errors sums) o₂ a₂ × (length (errors_text strata errors sums) ≤ 68 + 110 * strata)
  errors_some is summed all =
      as_bounded {most = 68 + 110 * strata} (ap (λ (b : Bool). pick b (closing_text strata sums) []) (sym told ∙ is)) (omega arith)
      (summed.0 ⨾ all.0, omega (arith, length-append (sums_text strata 0 sums.rows) (all_line sums), summed.1, all.1))

  pub errors_none : {o : List ℕ} {a : ℕ} → any ≡ false → Page.Wrote o a (errors_text strata errors sums) o a × (length (errors_text strata errors sums) ≤ 68 + 110 * strata)
  errors_none {o} {a} is =
      let none : errors_text strata errors sums ≡ [] = ap (λ (b : Bool). pick b (closing_text strata sums) []) (sym told ∙ is) in
      (as_text none nothing, omega (arith, ap length none))

pub shows_few : {counts ledger : List ℕ} {errors : List ℤ} {rows : List Row} → Shows counts ledger errors rows → length counts ≤ most_strata
shows_few s = s.parted.few

pub answers_written : {counts ledger : List ℕ} {errors : List ℤ} (a : Answers) → Shows counts ledger errors a.plan.rows → (draws : ℕ) {total : ℕ} → total ≡ sum ledger →
    {o o₁ o₂ o₃ o₄ : List ℕ} {a₀ a₁ a₂ a₃ a₄ : ℕ} → Page.Wrote o a₀ (plan_line draws (length counts) total) o₁ a₁ × (length (plan_line draws (length counts) total) ≤ 68) →
    Page.Wrote o₁ a₁ (strata_text 0 (parts_of counts ledger) a.plan.rows a.chosen.starts a.chosen.words) o₂ a₂ × (length (strata_text 0 (parts_of counts ledger) a.plan.rows a.chosen.starts a.chosen.words) ≤ 239 * length counts) →
    Page.Wrote o₂ a₂ (drawn_text 0 0 (parts_of counts ledger) a.plan.rows a.chosen.starts (parts_of counts errors)) o₃ a₃ →
    Page.Wrote o₃ a₃ (errors_text (length counts) errors a.sums) o₄ a₄ × (length (errors_text (length counts) errors a.sums) ≤ 68 + 110 * length counts) →
    Page.Wrote o a₀ (answers_text draws counts ledger errors a) o₄ a₄ × (length (answers_text draws counts ledger errors a) ≤ longest_for (length ledger) (length counts))
unfolding answers_text
answers_written {counts} {ledger} {errors} a s draws {total} is planned listed drawn closed =
    let plan = plan_line draws (length counts) total in
    let strata = strata_text 0 (parts_of counts ledger) a.plan.rows a.chosen.starts a.chosen.words in
    let lines = drawn_text 0 0 (parts_of counts ledger) a.plan.rows a.chosen.starts (parts_of counts errors) in
    let last = errors_text (length counts) errors a.sums in
    as_bounded {most = longest_for (length ledger) (length counts)} (ap (λ (t : ℕ). plan_line draws (length counts) t ++ (strata ++ (lines ++ last))) (sym is)) (omega arith) (
      planned.0 ⨾ listed.0 ⨾ drawn ⨾ closed.0,
      omega (
        arith,
        length-append plan (strata ++ (lines ++ last)),
        length-append strata (lines ++ last),
        length-append lines last,
        planned.1,
        listed.1,
        drawn_short counts ledger errors a.plan.rows a.chosen.starts 0 0 s.each,
        closed.1,
      ),
    )
