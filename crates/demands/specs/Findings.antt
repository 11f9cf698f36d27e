-- Findings and the projection: document 02's K8. Where the marks are those that the draw gave, what a batch posts is what the projection takes.
-- Definitions: nothing is assumed.
use Rattle.std.specs.Prelude.{ℕ, ◌<◌, ◌≡◌, List, ℤ, pos, length, get_or, Result, Ok}
use Rattle.terms.specs.declared.Refusal.{Refusal}
use Rattle.terms.specs.Outcome.{accepted, refused}
use Rattle.draw.specs.Draw.{DrawPromise}
use Rattle.project.specs.declared.Projection.{Projection}
use Rattle.project.specs.Project.{project_of}
use Rattle.findings.specs.Batch.{PostAllPromise}

-- after a draw that was accepted, with the marks that it gave
pub record FindingsTaken (ledger : List ℕ) (n start : ℕ) (marks : List ℕ) : Type 0 where
  -- once a batch is accepted, the projection is refused at none of the lines posted, whatever was entered on the others
  pub posted : (errors : List ℤ) (lines : List ℕ) (found : List ℤ) (pairs : ℕ) (errors' : List ℤ) → PostAllPromise ledger marks errors lines found (Ok pairs) errors' →
      (position number : ℕ) → position < length lines → ¬ (project_of ledger n start errors' ≡ refused number (get_or lines position 0))
  -- where no error is entered there is a projection
  pub none : (errors : List ℤ) → length errors ≡ length ledger → ((line : ℕ) → get_or errors line (pos 0) ≡ pos 0) → (p : Projection) × (project_of ledger n start errors ≡ accepted p)
  -- where there is one, there is one after any batch, accepted or refused
  pub kept : (errors : List ℤ) (lines : List ℕ) (found : List ℤ) (r : Result ℕ Refusal) (errors' : List ℤ) → PostAllPromise ledger marks errors lines found r errors' →
      (p : Projection) → project_of ledger n start errors ≡ accepted p → (q : Projection) × (project_of ledger n start errors' ≡ accepted q)

abbrev pub FindingsProjected : Type 0
FindingsProjected = (ledger : List ℕ) (n start : ℕ) (former : List ℕ) (drawn : ℕ) (marks : List ℕ) → DrawPromise ledger n start former (Ok drawn) marks → FindingsTaken ledger n start marks
