-- One pair posted, singly or at a position of a batch, as the code meets it. Assumes nothing.
use Prim.Native.Nat.{ℕ, ◌^◌, ◌<◌}
use Rattle.std.specs.Prelude.{Result, Ok, Err}
use mathlib.Core.Path.{◌≡◌, refl, sym, ap, subst, ◌∙◌}
use mathlib.Core.Bool.{Bool, true, false, not}
use mathlib.Core.List.{List}
use native.Mathlib.Omega.{arith}
use borrow.Author.Tests.{not-true}
use lib.IntN.{ℤ}
use lib.ListN.{length, set}
use lib.Signed.{mag}
use Rattle.terms.specs.declared.Refusal.{Refusal}
use Rattle.terms.specs.declared.Refusal.TheVariants.{LengthsDiffer}
use Rattle.terms.specs.Outcome.{Outcome, accepted, refused, after, left, says}
use Rattle.terms.specs.Numbers.{pick}
use Rattle.terms.proofs.Outcomes.{never}
use Rattle.terms.proofs.Tests.{by_test}
use Rattle.signed.proofs.Signs.{held, kept}
use Rattle.bits.specs.declared.Bits.TheVariants.{All}
use Rattle.bits.specs.Own.{bits_of}
use Rattle.bits.proofs.Lists.{bits_all}
use Rattle.findings.specs.Findings.{equally_long, line_of, post_of, PostPromise}
use Rattle.findings.specs.Batch.{placed_at, PairPromise}
use Rattle.findings.proofs.Rules.{same_long, long_counted, stands_line, line_first}

-- the errors with a finding on a line
abbrev pub posting : List ℤ → ℤ → ℕ → Outcome (List ℤ)
posting errors error at = accepted (set errors at error)

-- a line that is refused at a position, and one on which a finding may stand
module _ (errors : List ℤ) (error : ℤ) (position : ℕ) where
  abbrev Comes : Outcome ℕ → Outcome ℕ → List ℤ → Type 0
  Comes o says errors' =
      (says ≡ after (λ posted. accepted 1) (placed_at position (after (posting errors error) o))) × (errors' ≡ left (λ posted. posted) errors (after (posting errors error) o))

  refused_by : (o : Outcome ℕ) {n p : ℕ} → refused n p ≡ placed_at position o → Comes o (refused n p) errors
  refused_by (accepted at) e = never e
  refused_by (refused m q) e = (cc, refl)

  accepted_by : (o : Outcome ℕ) {at : ℕ} → accepted at ≡ placed_at position o → Comes o (accepted 1) (set errors at error)
  accepted_by (accepted b) {at} e = let same : at ≡ b = cc in (refl, ap (λ (x : ℕ). set errors x error) same)
  accepted_by (refused m q) e = never (sym e)

  first_by : (o : Outcome ℕ) → placed_at position o ≡ o → placed_at position (after (posting errors error) o) ≡ after (posting errors error) o
  first_by (accepted at) e = refl
  first_by (refused n p) e = cc

placed_accepted : (position : ℕ) (o : Outcome ℕ) {at : ℕ} → accepted at ≡ placed_at position o → o ≡ accepted at
placed_accepted position (accepted b) e = sym e
placed_accepted position (refused m q) e = never (sym e)

module _ (ledger marks : List ℕ) (errors : List ℤ) (line : ℕ) (error : ℤ) where
  -- the lengths are judged first
  pub post_same : length marks ≡ length ledger → length errors ≡ length ledger → post_of ledger marks errors line error ≡ after (posting errors error) (line_of ledger marks line error)
  unfolding post_of
  post_same m e = ap (λ (b : Bool). pick b (after (posting errors error) (line_of ledger marks line error)) (refused 13 0)) (same_long (length ledger) (length marks) (length errors) m e)

  pub post_differ : equally_long (length ledger) (length marks) (length errors) ≡ false → post_of ledger marks errors line error ≡ refused 13 0
  unfolding post_of
  post_differ e = ap (λ (b : Bool). pick b (after (posting errors error) (line_of ledger marks line error)) (refused 13 0)) e

  -- a single pair is at position 0
  pub post_first : placed_at 0 (post_of ledger marks errors line error) ≡ post_of ledger marks errors line error
  unfolding post_of
  post_first =
      by_test (λ (o : Outcome (List ℤ)). placed_at 0 o ≡ o) (equally_long (length ledger) (length marks) (length errors))
      (λ t. first_by errors error 0 (line_of ledger marks line error) (line_first ledger marks line error)) (λ t. refl)

  -- as `post_by` meets it
  pub post_lengths : {lines : ℕ} → length marks ≡ lines → {b : Bool} → b ≡ equally_long (length ledger) lines (length errors) → not b ≡ true →
      PostPromise ledger marks errors line error (Err LengthsDiffer) errors
  post_lengths many is t =
      let e = sym (post_differ (sym (long_counted _ _ _ many is) ∙ not-true _ t)) in
      record { answer = ap (after (λ posted. accepted 1)) e; errors_left = ap (left (λ posted. posted) errors) e }

  -- as `post_pair` meets it
  module _ (position : ℕ) (marks_same : length marks ≡ length ledger) (errors_same : length errors ≡ length ledger) where
    promised : (s : Result ℕ Refusal) {errors' : List ℤ} → Comes errors error position (line_of ledger marks line error) (says s) errors' → PairPromise ledger marks errors position line error s errors'
    promised s x =
        let same = sym (post_same marks_same errors_same) in
        record { answer = x.0 ∙ ap (λ (o : Outcome (List ℤ)). after (λ posted. accepted 1) (placed_at position o)) same; errors_left = x.1 ∙ ap (left (λ posted. posted) errors) same }

    -- the error was read from its bits
    module _ (fits : mag error < 2 ^ 63) (r : Result ℕ Refusal) (told : says r ≡ placed_at position (line_of ledger marks line (held error))) where
      told_line : says r ≡ placed_at position (line_of ledger marks line error)
      told_line = told ∙ ap (λ (z : ℤ). placed_at position (line_of ledger marks line z)) (kept error fits)

      pub pair_refused : {why : Refusal} → r ≡ Err why → PairPromise ledger marks errors position line error (Err why) errors
      pair_refused is = promised (Err _) (refused_by errors error position (line_of ledger marks line error) (sym (ap says is) ∙ told_line))

      module _ {item : ℕ} (is : r ≡ Ok item) where
        pub pair_inside : item < length errors
        pair_inside =
            let at = stands_line ledger marks line error (placed_accepted position (line_of ledger marks line error) (sym (ap says is) ∙ told_line)) in
            omega (arith, at.0, at.1.inside, errors_same)

        pub pair_posted : PairPromise ledger marks errors position line error (Ok 1) (set errors item (held error))
        pair_posted =
            let x = accepted_by errors error position (line_of ledger marks line error) (sym (ap says is) ∙ told_line) in
            promised (Ok 1) (x.0, ap (set errors item) (kept error fits) ∙ x.1)

  -- and as `post_by` does: its one pair is at position 0
  pub post_single : mag error < 2 ^ 63 → {r : Result ℕ Refusal} {errors' : List ℤ} → PairPromise ledger marks errors 0 line (held error) r errors' → PostPromise ledger marks errors line error r errors'
  post_single fits {r} {errors'} told =
      let p = subst (λ (z : ℤ). PairPromise ledger marks errors 0 line z r errors') (kept error fits) told in
      record { answer = p.answer ∙ ap (after (λ posted. accepted 1)) post_first; errors_left = p.errors_left }

  -- as an export meets it: the error that it hands on was read from its bits
  pub post_read : mag error < 2 ^ 63 → {r : Result ℕ Refusal} {errors' : List ℤ} → PostPromise ledger marks errors line (held error) r errors' → PostPromise ledger marks errors line error r errors'
  post_read fits {r} {errors'} told = subst (λ (z : ℤ). PostPromise ledger marks errors line z r errors') (kept error fits) told

-- and as `post` meets it: all eight bits are the marks
pub post_plain : (ledger marks : List ℕ) (errors : List ℤ) (line : ℕ) (error : ℤ) → mag error < 2 ^ 63 → {r : Result ℕ Refusal} {errors' : List ℤ} →
    PostPromise ledger (bits_of All marks) errors line (held error) r errors' → PostPromise ledger marks errors line error r errors'
post_plain ledger marks errors line error fits {r} {errors'} told =
    subst (λ (own : List ℕ). PostPromise ledger own errors line error r errors') (bits_all marks) (post_read ledger (bits_of All marks) errors line error fits told)
