-- What every batch promises beyond its equation: it is its pairs posted one by one, it may be cut in two, pairs of different lines may change
-- places, and of a line's pairs the last counts. Definitions: nothing is assumed.
use Rattle.std.specs.Prelude.{ℕ, ◌+◌, ◌<◌, ◌≡◌, List, [], ◌∷◌, ◌++◌, eqb, ℤ, pos, length, get_or, set, take}
use Rattle.terms.specs.Outcome.{Outcome, accepted, refused, after, left}
use Rattle.terms.specs.Numbers.{pick}
use Rattle.findings.specs.Findings.{post_of}
use Rattle.findings.specs.Batch.{Pair, Batch, pairs_of, post_all_of}

-- the errors after each pair of a list, posted by itself
unfoldable pub singly : List ℕ → List ℕ → List ℤ → List Pair → List ℤ
singly ledger marks errors [] = errors
singly ledger marks errors (pair ∷ later) = singly ledger marks (left (λ posted. posted) errors (post_of ledger marks errors pair.line pair.error)) later

-- what a call says after a number of pairs were posted by the call before it
abbrev pub counted_on : ℕ → Outcome ℕ → Outcome ℕ
counted_on before (accepted pairs) = accepted (before + pairs)
counted_on before (refused number position) = refused number (before + position)

-- one call after another, from the errors that the first leaves; it is not made where the first is refused
abbrev pub second_call : (List ℤ → Batch) → List ℤ → Outcome ℕ → Batch
second_call next errors (accepted pairs) = record { says = counted_on pairs (next errors).says; errors = (next errors).errors }
second_call next errors (refused number position) = record { says = refused number position; errors = errors }

abbrev pub two_calls : Batch → (List ℤ → Batch) → Batch
two_calls first next = second_call next first.errors first.says

-- the error that pairs have last for a line, or the one that was there before
unfoldable pub last_found : ℕ → List Pair → ℤ → ℤ
last_found line [] before = before
last_found line (pair ∷ later) before = last_found line later (pick (eqb pair.line line) pair.error before)

pub record OneByOne (ledger marks : List ℕ) (errors : List ℤ) : Type 0 where
  -- a batch of one pair is that pair posted singly
  pub one : (line : ℕ) (error : ℤ) → post_all_of ledger marks errors (line ∷ []) (error ∷ [])
      ≡ record { says = after (λ posted. accepted 1) (post_of ledger marks errors line error); errors = left (λ posted. posted) errors (post_of ledger marks errors line error) }
  -- cut in two and posted in two calls, a batch is the same
  pub cut : (lines lines₂ : List ℕ) (found found₂ : List ℤ) → length found ≡ length lines → length found₂ ≡ length lines₂ →
      post_all_of ledger marks errors (lines ++ lines₂) (found ++ found₂) ≡ two_calls (post_all_of ledger marks errors lines found) (λ posted. post_all_of ledger marks posted lines₂ found₂)
  -- an accepted batch has posted every pair: the errors are those that posting them singly gives
  pub every : (lines : List ℕ) (found : List ℤ) (posted : ℕ) → (post_all_of ledger marks errors lines found).says ≡ accepted posted →
      (posted ≡ length lines) × ((post_all_of ledger marks errors lines found).errors ≡ singly ledger marks errors (pairs_of lines found))
  -- one that stops at a pair has posted those before it, which are a batch that is accepted; and that pair by itself would be refused after them
  pub stopped : (lines : List ℕ) (found : List ℤ) (number position : ℕ) → ¬ (number ≡ 13) → (post_all_of ledger marks errors lines found).says ≡ refused number position →
      (position < length lines)
      × (post_all_of ledger marks errors (take position lines) (take position found) ≡ record { says = accepted position; errors = (post_all_of ledger marks errors lines found).errors })
      × (post_of ledger marks (post_all_of ledger marks errors lines found).errors (get_or lines position 0) (get_or found position (pos 0)) ≡ refused number 0)
  -- one that is refused by 13 has posted none
  pub none : (lines : List ℕ) (found : List ℤ) (position : ℕ) → (post_all_of ledger marks errors lines found).says ≡ refused 13 position → (post_all_of ledger marks errors lines found).errors ≡ errors
  -- pairs of different lines may change places
  pub swapped : (lines lines₂ : List ℕ) (found found₂ : List ℤ) (a b : ℕ) (d e : ℤ) (posted : ℕ) → length found ≡ length lines → ¬ (a ≡ b) →
      (post_all_of ledger marks errors (lines ++ a ∷ b ∷ lines₂) (found ++ d ∷ e ∷ found₂)).says ≡ accepted posted →
      post_all_of ledger marks errors (lines ++ a ∷ b ∷ lines₂) (found ++ d ∷ e ∷ found₂) ≡ post_all_of ledger marks errors (lines ++ b ∷ a ∷ lines₂) (found ++ e ∷ d ∷ found₂)
  -- of several pairs for a line the last counts, and a line without one keeps its error
  pub replaced : (lines : List ℕ) (found : List ℤ) (posted : ℕ) → (post_all_of ledger marks errors lines found).says ≡ accepted posted → (line : ℕ) →
      get_or (post_all_of ledger marks errors lines found).errors line (pos 0) ≡ last_found line (pairs_of lines found) (get_or errors line (pos 0))
  -- an error of 0 is posted on any line
  pub cleared : (line : ℕ) → length marks ≡ length ledger → length errors ≡ length ledger → line < length ledger → post_of ledger marks errors line (pos 0) ≡ accepted (set errors line (pos 0))
