-- Findings by the batch: pairs of a line and an error, posted singly in their order up to the first that is refused. Definitions: nothing is assumed.
use Rattle.std.specs.Prelude.{ℕ, suc, ◌≡◌, false, List, [], ◌∷◌, eqb, ℤ, pos, length, get_or, drop, Result}
use Rattle.terms.specs.declared.Refusal.{Refusal}
use Rattle.terms.specs.Outcome.{Outcome, accepted, refused, after, left, says}
use Rattle.terms.specs.Numbers.{pick}
use Rattle.findings.specs.Findings.{equally_long, post_of}

pub record Pair : Type 0 where
  pub line : ℕ
  pub error : ℤ

-- the pairs of a list of lines and one of errors; the error of a line past the end of the errors is 0
unfoldable pub pairs_of : List ℕ → List ℤ → List Pair
pairs_of [] found = []
pairs_of (line ∷ lines) found = record { line = line; error = get_or found 0 (pos 0) } ∷ pairs_of lines (drop 1 found)

-- what a batch comes to: how many pairs were posted or the refusal, and the errors afterwards
pub record Batch : Type 0 where
  pub says : Outcome ℕ
  pub errors : List ℤ

-- a refusal that names a position
abbrev pub placed_at : {A : Type 0} → ℕ → Outcome A → Outcome A
placed_at position (accepted a) = accepted a
placed_at position (refused number place) = refused number position

-- what follows from the errors with a pair posted; a refused pair stops the batch with the errors before it
abbrev pub posted_then : (List ℤ → Batch) → List ℤ → Outcome (List ℤ) → Batch
posted_then next errors (accepted posted) = next posted
posted_then next errors (refused number place) = record { says = refused number place; errors = errors }

-- the pairs posted singly in their order, the first of them at a position
unfoldable pub posted_from : List ℕ → List ℕ → ℕ → List ℤ → List Pair → Batch
posted_from ledger marks position errors [] = record { says = accepted position; errors = errors }
posted_from ledger marks position errors (pair ∷ later) =
    posted_then (λ posted. posted_from ledger marks (suc position) posted later) errors (placed_at position (post_of ledger marks errors pair.line pair.error))

-- the batch, after 13: also where the two lists differ in length
unfoldable pub post_all_of : List ℕ → List ℕ → List ℤ → List ℕ → List ℤ → Batch
post_all_of ledger marks errors lines found =
    pick (pick (equally_long (length ledger) (length marks) (length errors)) (eqb (length found) (length lines)) false)
    (posted_from ledger marks 0 errors (pairs_of lines found))
    (record { says = refused 13 0; errors = errors })

-- one pair at a position, as the batch posts it
pub record PairPromise (ledger marks : List ℕ) (errors : List ℤ) (position line : ℕ) (error : ℤ) (r : Result ℕ Refusal) (errors' : List ℤ) : Type 0 where
  pub answer : says r ≡ after (λ posted. accepted 1) (placed_at position (post_of ledger marks errors line error))
  pub errors_left : errors' ≡ left (λ posted. posted) errors (post_of ledger marks errors line error)

-- what posting pairs asks: marks and errors beside the ledger, and an error for each line
pub record Postable (ledger marks : List ℕ) (errors : List ℤ) (lines : List ℕ) (found : List ℤ) : Type 0 where
  pub marks_same : length marks ≡ length ledger
  pub errors_same : length errors ≡ length ledger
  pub found_same : length found ≡ length lines

pub record PairsPromise (ledger marks : List ℕ) (errors : List ℤ) (lines : List ℕ) (found : List ℤ) (r : Result ℕ Refusal) (errors' : List ℤ) : Type 0 where
  pub answer : says r ≡ (posted_from ledger marks 0 errors (pairs_of lines found)).says
  pub errors_left : errors' ≡ (posted_from ledger marks 0 errors (pairs_of lines found)).errors

-- what `post_all` promises: the answer, and the errors, whether it is accepted or refused
pub record PostAllPromise (ledger marks : List ℕ) (errors : List ℤ) (lines : List ℕ) (found : List ℤ) (r : Result ℕ Refusal) (errors' : List ℤ) : Type 0 where
  pub answer : says r ≡ (post_all_of ledger marks errors lines found).says
  pub errors_left : errors' ≡ (post_all_of ledger marks errors lines found).errors
