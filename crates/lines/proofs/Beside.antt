-- The length that is judged beside the ledger's: it is the ledger's exactly where that of the errors and that of the amounts are. Assumes nothing.
use mathlib.Core.Path.{◌≡◌, refl, sym, ◌∙◌}
use Prim.Native.Nat.{ℕ}
use borrow.Author.Tests.{eqb-true, eqb-false}
use lib.Dec.{eqb}
use Rattle.terms.proofs.Tests.{by_test}
use Rattle.lines.specs.Each.{length_beside}

module _ (ledger errors amounts : ℕ) where
  -- where it is the ledger's, both are
  pub beside_same : length_beside ledger errors amounts ≡ ledger → (errors ≡ ledger) × (amounts ≡ ledger)
  beside_same =
      by_test (λ (b : ℕ). b ≡ ledger → (errors ≡ ledger) × (amounts ≡ ledger)) (eqb errors ledger)
      (λ p e. (eqb-true _ _ p, e)) (λ p e. absurd (eqb-false _ _ p e))

  -- with amounts of the ledger's length it is that of the errors
  pub beside_is_errors : amounts ≡ ledger → length_beside ledger errors amounts ≡ errors
  beside_is_errors same =
      by_test (λ (b : ℕ). b ≡ errors) (eqb errors ledger) (λ p. same ∙ sym (eqb-true _ _ p)) (λ p. refl)
