-- One error changed, of a projection by strata that is accepted: it is accepted, or refused at that line. Assumes nothing.
use mathlib.Core.Path.{◌≡◌, sym, ap, ◌∙◌, subst}
use mathlib.Core.List.{List, [], ◌∷◌}
use mathlib.Core.Logic.{⊎_elim}
use Prim.Native.Nat.{ℕ, ◌+◌, ◌-◌, ◌≤◌, ◌<◌}
use native.Mathlib.Omega.{arith}
use lib.IntN.{ℤ, pos}
use lib.ListN.{length, get_or, take, drop, length-take, length-drop, get_or-eq_default}
use lib.Seq.{get_or-take, get_or-drop, ext_get_or}
use Rattle.terms.specs.Outcome.{Outcome, accepted, after}
use Rattle.terms.specs.Numbers.{sum}
use Rattle.terms.proofs.Outcomes.{after_accepted}
use Rattle.terms.proofs.Tests.{le_or_lt}
use Rattle.project.specs.declared.Projection.{Projection}
use Rattle.project.specs.Project.{projection_at}
use Rattle.project.proofs.Changed.{AtLine, passes, at_after, Agree, projection_changed}
use Rattle.strata.specs.declared.Row.{Row}
use Rattle.strata.specs.Strata.{parts_of, no_row}
use Rattle.strata.specs.Starts.{started_of}
use Rattle.strata.proofs.Starting.{started_facts}
use Rattle.stratified.specs.declared.projection.ProjectionRow.{ProjectionRow}
use Rattle.stratified.specs.Projection.{projected_from, project_strata_of}
use Rattle.stratified.proofs.Laws.{first_row}

-- errors that agree but at a line, cut in two: the first part agrees but at that line, and where it is not in a part, that part is the same
module _ (line count : ℕ) (es fs : List ℤ) (agree : Agree (pos 0) line es fs) where
  take_agree : Agree (pos 0) line (take count es) (take count fs)
  take_agree other apart =
      ⊎_elim
      (λ (past : count ≤ other). get_or-eq_default (take count es) (pos 0) (omega (arith, length-take count es)) ∙ sym (get_or-eq_default (take count fs) (pos 0) (omega (arith, length-take count fs))))
      (λ (inside : other < count). get_or-take count es other (pos 0) inside ∙ agree other apart ∙ sym (get_or-take count fs other (pos 0) inside)) (le_or_lt count other)

  drop_agree : count ≤ line → Agree (pos 0) (line - count) (drop count es) (drop count fs)
  drop_agree past other apart = get_or-drop count es other (pos 0) ∙ agree (count + other) (λ e. apart (omega arith)) ∙ sym (get_or-drop count fs other (pos 0))

  module _ (long : length es ≡ length fs) where
    take_same : count ≤ line → take count es ≡ take count fs
    take_same past =
        ext_get_or (pos 0) (take count es) (take count fs) (omega (arith, length-take count es, length-take count fs))
        (λ i inside. take_agree i (λ e. absurd (omega (arith, length-take count es))))

    drop_same : line < count → drop count es ≡ drop count fs
    drop_same here =
        ext_get_or (pos 0) (drop count es) (drop count fs) (omega (arith, length-drop count es, length-drop count fs))
        (λ i inside. get_or-drop count es i (pos 0) ∙ agree (count + i) (λ e. absurd (omega arith)) ∙ sym (get_or-drop count fs i (pos 0)))

-- from a stratum on
rows_changed : (at line place : ℕ) (counts ledger : List ℕ) (rows : List Row) (starts : List ℕ) (es fs : List ℤ) (good : List ProjectionRow) → sum counts ≤ length ledger → length es ≡ length fs →
    Agree (pos 0) line es fs → at + line ≡ place → projected_from at (parts_of counts ledger) rows starts (parts_of counts es) ≡ accepted good →
    AtLine place (projected_from at (parts_of counts ledger) rows starts (parts_of counts fs))
unfolding projected_from parts_of
rows_changed at line place [] ledger rows starts es fs good enough long agree e passed = passes
rows_changed at line place (count ∷ counts) ledger rows starts es fs good enough long agree e passed =
    let part = take count ledger in
    let own : List ℤ → Outcome Projection = λ errors. projection_at at (get_or rows 0 no_row).figures.interval (get_or starts 0 0) part errors in
    let later : List ℤ → Outcome (List ProjectionRow) = λ errors. projected_from (at + length part) (parts_of counts (drop count ledger)) (drop 1 rows) (drop 1 starts) (parts_of counts errors) in
    let f = first_row at part (parts_of counts (drop count ledger)) rows starts (take count es ∷ parts_of counts (drop count es)) good passed in
    ⊎_elim
    (λ (past : count ≤ line).
    at_after place _ (subst (AtLine place) (sym (ap own (sym (take_same line count es fs agree long past)) ∙ f.own)) passes)
    (λ sums. at_after place _
    (rows_changed (at + length part) (line - count) place counts (drop count ledger) (drop 1 rows) (drop 1 starts) (drop count es) (drop count fs) f.more
    (omega (arith, length-drop count ledger)) (omega (arith, length-drop count es, length-drop count fs)) (drop_agree line count es fs agree past) (omega (arith, length-take count ledger)) f.rest)
    (λ more. passes)))
    (λ (here : line < count).
    at_after place _ (projection_changed at _ _ line place part (take count es) (take count fs) f.sums (take_agree line count es fs agree) e f.own)
    (λ sums. at_after place _ (subst (AtLine place) (sym (ap later (sym (drop_same line count es fs agree long here)) ∙ f.rest)) passes) (λ more. passes)))
    (le_or_lt count line)

pub strata_changed : (ledger counts : List ℕ) (n : ℕ) (starts : List ℕ) (line : ℕ) (es fs : List ℤ) (good : List ProjectionRow) → length es ≡ length fs → Agree (pos 0) line es fs →
    project_strata_of ledger counts n starts es ≡ accepted good → AtLine line (project_strata_of ledger counts n starts fs)
unfolding project_strata_of
strata_changed ledger counts n starts line es fs good long agree passed =
    let a = after_accepted (λ (rows : List Row). projected_from 0 (parts_of counts ledger) rows starts (parts_of counts es)) (started_of ledger counts n starts (length es)) good passed in
    let s = started_facts ledger counts n starts (length es) a.0 a.1 in
    let started : started_of ledger counts n starts (length fs) ≡ accepted a.0 = ap (started_of ledger counts n starts) (sym long) ∙ a.1 in
    subst (AtLine line) (sym (ap (after (λ rows. projected_from 0 (parts_of counts ledger) rows starts (parts_of counts fs))) started))
    (rows_changed 0 line line counts ledger a.0 starts es fs good (omega (arith, s.facts.checks.add)) long agree (omega arith) a.2)
