-- The promises fix the answer and the errors: any two results that meet one agree; and which refusals are given. Assumes nothing.
use Prim.Native.Nat.{ℕ, suc}
use Rattle.terms.specs.declared.Refusal.{Refusal}
use Rattle.std.specs.Prelude.{Result}
use mathlib.Core.Path.{◌≡◌, sym, ◌∙◌}
use mathlib.Core.Bool.{false}
use mathlib.Core.List.{List, [], ◌∷◌}
use lib.Dec.{eqb, leb, ltb}
use lib.IntN.{ℤ}
use lib.ListN.{length, get_or}
use Rattle.terms.specs.Outcome.{Outcome, accepted, refused}
use Rattle.terms.specs.Numbers.{pick}
use Rattle.terms.proofs.Answers.{says_once}
use Rattle.terms.proofs.Outcomes.{Gives, gives_after, gives_among}
use Rattle.terms.proofs.Tests.{by_test}
use Rattle.signed.specs.Errors.{size_of}
use Rattle.findings.specs.Findings.{misplaced, equally_long, line_of, post_of, PostPromise}
use Rattle.findings.specs.Batch.{Pair, Batch, pairs_of, placed_at, posted_then, posted_from, post_all_of, PostAllPromise}
use Rattle.findings.proofs.Posting.{posting}

pub post_once : {ledger marks : List ℕ} {errors : List ℤ} {line : ℕ} {error : ℤ} {r s : Result ℕ Refusal} {b c : List ℤ} →
    PostPromise ledger marks errors line error r b → PostPromise ledger marks errors line error s c → (r ≡ s) × (b ≡ c)
post_once {r = r} {s = s} p q = (says_once r s p.answer q.answer, p.errors_left ∙ sym q.errors_left)

pub post_all_once : {ledger marks : List ℕ} {errors : List ℤ} {lines : List ℕ} {found : List ℤ} {r s : Result ℕ Refusal} {b c : List ℤ} →
    PostAllPromise ledger marks errors lines found r b → PostAllPromise ledger marks errors lines found s c → (r ≡ s) × (b ≡ c)
post_all_once {r = r} {s = s} p q = (says_once r s p.answer q.answer, p.errors_left ∙ sym q.errors_left)

-- the refusals that a pair gives, and that posting gives
abbrev pub pair_numbers : List ℕ
pair_numbers = 20 ∷ 14 ∷ 15 ∷ []

abbrev pub post_numbers : List ℕ
post_numbers = 13 ∷ pair_numbers

pub line_gives : (ledger marks : List ℕ) (line : ℕ) (error : ℤ) → Gives pair_numbers (line_of ledger marks line error)
unfolding line_of
line_gives ledger marks line error =
    by_test (Gives pair_numbers) (leb (length ledger) line) (λ t. tt)
    (λ t. by_test (Gives pair_numbers) (ltb (get_or ledger line 0) (size_of error)) (λ u. tt)
    (λ u. by_test (Gives pair_numbers) (misplaced (get_or marks line 0) (size_of error)) (λ v. tt) (λ v. tt)))

pub findings_gives : (ledger marks : List ℕ) (errors : List ℤ) (line : ℕ) (error : ℤ) → Gives post_numbers (post_of ledger marks errors line error)
unfolding post_of
findings_gives ledger marks errors line error =
    by_test (Gives post_numbers) (equally_long (length ledger) (length marks) (length errors))
    (λ t. gives_after post_numbers (posting errors error) (line_of ledger marks line error) (gives_among pair_numbers post_numbers tt (line_of ledger marks line error) (line_gives ledger marks line error)) (λ at. tt)) (λ t. tt)

-- a pair gives them at its position, and so does the batch
then_gives : (position : ℕ) (next : List ℤ → Batch) (errors : List ℤ) (o : Outcome (List ℤ)) → Gives post_numbers o → ((posted : List ℤ) → Gives post_numbers (next posted).says) →
    Gives post_numbers (posted_then next errors (placed_at position o)).says
then_gives position next errors (accepted posted) g h = h posted
then_gives position next errors (refused n p) g h = g

from_gives : (ledger marks : List ℕ) (position : ℕ) (errors : List ℤ) (pairs : List Pair) → Gives post_numbers (posted_from ledger marks position errors pairs).says
unfolding posted_from
from_gives ledger marks position errors [] = tt
from_gives ledger marks position errors (one ∷ later) =
    then_gives position _ errors (post_of ledger marks errors one.line one.error) (findings_gives ledger marks errors one.line one.error)
    (λ posted. from_gives ledger marks (suc position) posted later)

pub batch_gives : (ledger marks : List ℕ) (errors : List ℤ) (lines : List ℕ) (found : List ℤ) → Gives post_numbers (post_all_of ledger marks errors lines found).says
unfolding post_all_of
batch_gives ledger marks errors lines found =
    by_test (λ (b : Batch). Gives post_numbers b.says) (pick (equally_long (length ledger) (length marks) (length errors)) (eqb (length found) (length lines)) false)
    (λ t. from_gives ledger marks 0 errors (pairs_of lines found)) (λ t. tt)
