-- The promises by strata leave no freedom: any two results that meet one agree. Assumes nothing.
use Prim.Native.Nat.{ℕ}
use mathlib.Core.Path.{sym, ◌∙◌}
use mathlib.Core.List.{List}
use Rattle.terms.specs.Outcome.{Outcome}
use Rattle.terms.proofs.Answers.{says_once}
use Rattle.start.specs.declared.Chosen.{Chosen}
use Rattle.strata.specs.declared.Row.{Row}
use Rattle.strata.specs.Strata.{PlanPromise}
use Rattle.starts.specs.Starts.{StartsPromise}
use Rattle.stratified.specs.declared.projection.ProjectionRow.{ProjectionRow}
use Rattle.stratified.specs.Marks.{DrawStrataPromise}
use Rattle.stratified.specs.Projection.{ProjectStrataPromise}
use Rattle.contracts.specs.Unique.{One, OneWith}

pub plan_once : (o : Outcome (List Row)) → One (PlanPromise o)
plan_once _ r s p q = says_once r s p q

pub starts_once : (o : Outcome (List Chosen)) → One (StartsPromise o)
starts_once _ r s p q = says_once r s p q

pub strata_draw_once : (ledger counts : List ℕ) (n : ℕ) (starts marks : List ℕ) → OneWith (DrawStrataPromise ledger counts n starts marks)
strata_draw_once _ _ _ _ _ r s _ _ p q = (says_once r s p.answer q.answer, p.marks_left ∙ sym q.marks_left)

pub strata_project_once : (o : Outcome (List ProjectionRow)) → One (ProjectStrataPromise o)
strata_project_once _ r s p q = says_once r s p q
