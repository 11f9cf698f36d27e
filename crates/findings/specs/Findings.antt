-- One finding: the error that was found on a line, posted among the errors beside the ledger. The marks say which lines are in the sample; the
-- ledger is not judged. Definitions: nothing is assumed.
use Rattle.std.specs.Prelude.{ℕ, ◌≡◌, Bool, true, false, List, eqb, leb, ltb, ℤ, length, get_or, set, Result}
use Rattle.terms.specs.declared.Refusal.{Refusal}
use Rattle.terms.specs.Outcome.{Outcome, accepted, refused, after, left, says}
use Rattle.terms.specs.Numbers.{pick}
use Rattle.signed.specs.Errors.{size_of}

-- an error other than 0 under a mark that says neither drawn, 1, nor full, 2: any other means not drawn
abbrev pub misplaced : ℕ → ℕ → Bool
misplaced mark size = pick (eqb size 0) false (pick (eqb mark 1) false (pick (eqb mark 2) false true))

-- the line, unless the finding breaks a rule: 20 where the line is not in the ledger, 14 where the error's size exceeds its value, then 15
unfoldable pub line_of : List ℕ → List ℕ → ℕ → ℤ → Outcome ℕ
line_of ledger marks line error =
    (pick (leb (length ledger) line) (refused 20 0)
    (pick (ltb (get_or ledger line 0) (size_of error)) (refused 14 0)
    (pick (misplaced (get_or marks line 0) (size_of error)) (refused 15 0) (accepted line))))

-- marks and errors are as many as the ledger's lines
abbrev pub equally_long : ℕ → ℕ → ℕ → Bool
equally_long ledger marks errors = pick (eqb marks ledger) (eqb errors ledger) false

-- the errors with one finding posted, after 13
unfoldable pub post_of : List ℕ → List ℕ → List ℤ → ℕ → ℤ → Outcome (List ℤ)
post_of ledger marks errors line error =
    pick (equally_long (length ledger) (length marks) (length errors)) (after (λ at. accepted (set errors at error)) (line_of ledger marks line error)) (refused 13 0)

-- what `post` promises: one pair was posted, or the refusal; and the errors, which a refusal leaves
pub record PostPromise (ledger marks : List ℕ) (errors : List ℤ) (line : ℕ) (error : ℤ) (r : Result ℕ Refusal) (errors' : List ℤ) : Type 0 where
  pub answer : says r ≡ after (λ posted. accepted 1) (post_of ledger marks errors line error)
  pub errors_left : errors' ≡ left (λ posted. posted) errors (post_of ledger marks errors line error)
