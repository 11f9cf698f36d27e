-- Whether a batch begins, and where it stops: the pairs before are posted, and the one there is refused by itself. Assumes nothing.
use Prim.Native.Nat.{ℕ, suc, ◌+◌, ◌<◌}
use native.Mathlib.Omega.{arith}
use mathlib.Core.Path.{◌≡◌, refl, sym, ap, ◌∙◌}
use mathlib.Core.Bool.{Bool, true, false}
use mathlib.Core.List.{List, [], ◌∷◌, ◌++◌}
use mathlib.Core.Logic.{◌⊎◌, inl, inr, ⊎_elim}
use lib.Dec.{eqb}
use lib.IntN.{ℤ, pos}
use lib.ListN.{length, get_or, take}
use borrow.Author.Tests.{eqb-true}
use Rattle.terms.specs.Outcome.{Outcome, accepted, refused}
use Rattle.terms.proofs.Outcomes.{never}
use Rattle.findings.specs.Findings.{equally_long, post_of}
use Rattle.findings.specs.Batch.{Pair, Batch, pairs_of, placed_at, posted_then, posted_from, post_all_of, Postable}
use Rattle.findings.proofs.Rules.{long_same}
use Rattle.findings.proofs.Posting.{post_first}
use Rattle.findings.proofs.Pairs.{all_from, all_none}

-- the pairs of two lists after each other
pub pairs_append : (lines lines₂ : List ℕ) (found found₂ : List ℤ) → length found ≡ length lines → pairs_of (lines ++ lines₂) (found ++ found₂) ≡ pairs_of lines found ++ pairs_of lines₂ found₂
unfolding pairs_of
pairs_append [] lines₂ [] found₂ e = refl
pairs_append [] lines₂ (f ∷ found) found₂ e = absurd (omega arith)
pairs_append (l ∷ lines) lines₂ [] found₂ e = absurd (omega arith)
pairs_append (l ∷ lines) lines₂ (f ∷ found) found₂ e = ap (λ (later : List Pair). record { line = l; error = f } ∷ later) (pairs_append lines lines₂ found found₂ (omega arith))

pub pairs_length : (lines : List ℕ) (found : List ℤ) → length (pairs_of lines found) ≡ length lines
unfolding pairs_of
pairs_length [] found = refl
pairs_length (l ∷ lines) found = ap suc (pairs_length lines _)

-- either the lengths agree, or nothing is posted
module _ (ledger marks : List ℕ) (errors : List ℤ) (lines : List ℕ) (found : List ℤ) where
  differ_by : (a b : Bool) → equally_long (length ledger) (length marks) (length errors) ≡ a → eqb (length found) (length lines) ≡ b →
      Postable ledger marks errors lines found ⊎ (post_all_of ledger marks errors lines found ≡ record { says = refused 13 0; errors = errors })
  differ_by true true e f =
      let same = long_same (length ledger) (length marks) (length errors) e in
      inl (record { marks_same = same.0; errors_same = same.1; found_same = eqb-true _ _ f })
  differ_by true false e f = inr (all_none ledger marks errors lines found (simp (e, f)))
  differ_by false b e f = inr (all_none ledger marks errors lines found (simp e))

  pub postable_or_none : Postable ledger marks errors lines found ⊎ (post_all_of ledger marks errors lines found ≡ record { says = refused 13 0; errors = errors })
  postable_or_none = differ_by (equally_long (length ledger) (length marks) (length errors)) (eqb (length found) (length lines)) refl refl

  -- an accepted batch has lengths that agree
  pub accepted_postable : (n : ℕ) → (post_all_of ledger marks errors lines found).says ≡ accepted n → Postable ledger marks errors lines found
  accepted_postable n e = ⊎_elim (λ (p : Postable ledger marks errors lines found). p) (λ none. never (sym (ap (λ (b : Batch). b.says) none) ∙ e)) postable_or_none

  pub accepted_from : (n : ℕ) → (post_all_of ledger marks errors lines found).says ≡ accepted n → (posted_from ledger marks 0 errors (pairs_of lines found)).says ≡ accepted n
  accepted_from n e = sym (ap (λ (b : Batch). b.says) (all_from ledger marks errors lines found (accepted_postable n e))) ∙ e

-- where a pair stops a batch: the place is j pairs on, those before it are posted, and the pair by itself is refused
pub record Stop (ledger marks : List ℕ) (position : ℕ) (errors : List ℤ) (lines : List ℕ) (found errors' : List ℤ) (n place : ℕ) : Type 0 where
  pub pairs : ℕ
  pub counted : position + pairs ≡ place
  pub inside : pairs < length lines
  pub before : posted_from ledger marks position errors (pairs_of (take pairs lines) (take pairs found)) ≡ record { says = accepted place; errors = errors' }
  pub single : post_of ledger marks errors' (get_or lines pairs 0) (get_or found pairs (pos 0)) ≡ refused n 0

module _ (ledger marks : List ℕ) where
  first_place : {n p : ℕ} (o : Outcome (List ℤ)) → o ≡ refused n p → placed_at 0 o ≡ o → o ≡ refused n 0
  first_place o is e = sym e ∙ ap (placed_at 0) is

  module _ (position : ℕ) (errors : List ℤ) (line : ℕ) (error : ℤ) (lines : List ℕ) (found : List ℤ) (n place : ℕ) where
    abbrev next : List ℤ → Batch
    next posted = posted_from ledger marks (suc position) posted (pairs_of lines found)

    stop_by : ((posted : List ℤ) → (next posted).says ≡ refused n place → Stop ledger marks (suc position) posted lines found (next posted).errors n place) →
        (o : Outcome (List ℤ)) → post_of ledger marks errors line error ≡ o → (posted_then next errors (placed_at position o)).says ≡ refused n place →
        Stop ledger marks position errors (line ∷ lines) (error ∷ found) (posted_then next errors (placed_at position o)).errors n place
    unfolding pairs_of posted_from
    stop_by again (accepted posted) is e =
        let s = again posted e in
        record {
          pairs = suc s.pairs;
          counted = omega (arith, s.counted);
          inside = omega (arith, s.inside);
          before = ap (λ (x : Outcome (List ℤ)). posted_then (λ posted'. posted_from ledger marks (suc position) posted' (pairs_of (take s.pairs lines) (take s.pairs found))) errors (placed_at position x)) is ∙ s.before;
          single = s.single;
        }
    stop_by again (refused m p) is e =
        let at : position ≡ place = cc in
        let number : m ≡ n = cc in
        record {
          pairs = 0;
          counted = omega arith;
          inside = omega arith;
          before = ap (λ (k : ℕ). record { says = accepted k; errors = errors }) at;
          single = first_place (post_of ledger marks errors line error) is (post_first ledger marks errors line error) ∙ ap (λ (k : ℕ). refused k 0) number;
        }

  pub from_stop : (position : ℕ) (errors : List ℤ) (lines : List ℕ) (found : List ℤ) (n place : ℕ) → length found ≡ length lines →
      (posted_from ledger marks position errors (pairs_of lines found)).says ≡ refused n place →
      Stop ledger marks position errors lines found (posted_from ledger marks position errors (pairs_of lines found)).errors n place
  unfolding pairs_of posted_from
  from_stop position errors [] found n place same e = never (sym e)
  from_stop position errors (line ∷ lines) [] n place same e = absurd (omega arith)
  from_stop position errors (line ∷ lines) (error ∷ found) n place same e =
      stop_by position errors line error lines found n place (λ posted. from_stop (suc position) posted lines found n place (omega arith)) (post_of ledger marks errors line error) refl e
