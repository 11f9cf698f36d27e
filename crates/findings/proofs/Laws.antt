-- What stands in the errors after a batch: on each line of an accepted one a finding that may stand there; and no batch, accepted or refused, takes
-- away that what is on a line may stand there. Assumes nothing.
use Prim.Native.Nat.{ℕ, ◌<◌}
use mathlib.Core.Path.{◌≡◌, ap, subst⁻¹, ◌∙◌}
use mathlib.Core.List.{List}
use mathlib.Core.Logic.{⊎_elim}
use lib.IntN.{ℤ}
use lib.ListN.{length, get_or}
use Rattle.terms.specs.Outcome.{accepted}
use Rattle.findings.specs.Batch.{Batch, pairs_of, post_all_of, Postable}
use Rattle.findings.proofs.Pairs.{all_from}
use Rattle.findings.proofs.Batches.{from_long}
use Rattle.findings.proofs.Standing.{Standing, from_standing, from_posted}
use Rattle.findings.proofs.Stopping.{postable_or_none, accepted_postable, accepted_from}

module _ (ledger marks : List ℕ) (marks_same : length marks ≡ length ledger) (errors : List ℤ) (lines : List ℕ) (found : List ℤ) where
  -- on the line of each pair
  pub batch_stands : (n : ℕ) → (post_all_of ledger marks errors lines found).says ≡ accepted n → (position : ℕ) → position < length lines →
      Standing ledger marks (post_all_of ledger marks errors lines found).errors (get_or lines position 0)
  batch_stands n e position h =
      let p = accepted_postable ledger marks errors lines found n e in
      subst⁻¹ (λ (b : Batch). Standing ledger marks b.errors (get_or lines position 0)) (all_from ledger marks errors lines found p)
      (from_posted ledger marks marks_same 0 errors lines found n p.errors_same (accepted_from ledger marks errors lines found n e) position h)

  -- on any line, whatever the batch says
  pub batch_keeps : (line : ℕ) → Standing ledger marks errors line → Standing ledger marks (post_all_of ledger marks errors lines found).errors line
  batch_keeps line stood =
      ⊎_elim
      (λ (p : Postable ledger marks errors lines found).
      subst⁻¹ (λ (b : Batch). Standing ledger marks b.errors line) (all_from ledger marks errors lines found p)
      (from_standing ledger marks marks_same 0 errors (pairs_of lines found) p.errors_same line stood))
      (λ none. subst⁻¹ (λ (b : Batch). Standing ledger marks b.errors line) none stood) (postable_or_none ledger marks errors lines found)

-- there are as many errors as before
pub batch_long : (ledger marks : List ℕ) (errors : List ℤ) (lines : List ℕ) (found : List ℤ) → length (post_all_of ledger marks errors lines found).errors ≡ length errors
batch_long ledger marks errors lines found =
    ⊎_elim
    (λ (p : Postable ledger marks errors lines found). ap (λ (b : Batch). length b.errors) (all_from ledger marks errors lines found p) ∙ from_long ledger marks 0 errors (pairs_of lines found))
    (λ none. ap (λ (b : Batch). length b.errors) none) (postable_or_none ledger marks errors lines found)
