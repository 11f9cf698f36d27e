-- The pairs of a batch, one after another, as the code meets them. Assumes nothing.
use Prim.Native.Nat.{ℕ, suc, ◌+◌, ◌^◌, ◌≤◌, ◌<◌, zero-le}
use Rattle.std.specs.Prelude.{Result, Ok, Err}
use native.Mathlib.Nat.{add-zero}
use native.Mathlib.Numerals.{add-one}
use native.Mathlib.Omega.{arith}
use mathlib.Core.Path.{◌≡◌, refl, sym, ap, subst, ◌∙◌}
use mathlib.Core.Bool.{Bool, true, false, not}
use mathlib.Core.List.{List, [], ◌∷◌}
use lib.Dec.{eqb}
use lib.IntN.{ℤ, pos}
use lib.ListN.{length, get_or, drop, length-set, drop_of_length-le}
use lib.Seq.{drop-cons, get_or-drop, drop-drop}
use lib.Signed.{mag}
use borrow.Author.Tests.{eq-eqb, ne_eqb, not-true, not-false}
use Rattle.terms.specs.declared.Refusal.{Refusal}
use Rattle.terms.specs.declared.Refusal.TheVariants.{LengthsDiffer}
use Rattle.terms.specs.Outcome.{Outcome, accepted, refused, after, left, says}
use Rattle.terms.specs.Numbers.{pick}
use Rattle.terms.proofs.Outcomes.{never}
use Rattle.terms.proofs.Tests.{by_test}
use Rattle.signed.proofs.Signs.{held, kept}
use Rattle.bits.specs.declared.Bits.TheVariants.{All}
use Rattle.bits.specs.Own.{bits_of}
use Rattle.bits.proofs.Lists.{bits_all}
use Rattle.findings.specs.Findings.{equally_long, line_of, post_of}
use Rattle.findings.specs.Batch.{Pair, Batch, pairs_of, placed_at, posted_then, posted_from, post_all_of, PairPromise, Postable, PairsPromise, PostAllPromise}
use Rattle.findings.proofs.Rules.{long_counted, long_told, same_long}
use Rattle.findings.proofs.Posting.{posting}

-- clause by clause
pub posted_none : (ledger marks : List ℕ) (position : ℕ) (errors : List ℤ) → posted_from ledger marks position errors [] ≡ record { says = accepted position; errors = errors }
unfolding posted_from
posted_none ledger marks position errors = refl

pub posted_more : (ledger marks : List ℕ) (position : ℕ) (errors : List ℤ) (one : Pair) (later : List Pair) →
    posted_from ledger marks position errors (one ∷ later)
    ≡ posted_then (λ posted. posted_from ledger marks (suc position) posted later) errors (placed_at position (post_of ledger marks errors one.line one.error))
unfolding posted_from
posted_more ledger marks position errors one later = refl

pub pairs_none : (found : List ℤ) → pairs_of [] found ≡ []
unfolding pairs_of
pairs_none found = refl

pub pairs_more : (line : ℕ) (lines : List ℕ) (found : List ℤ) → pairs_of (line ∷ lines) found ≡ record { line = line; error = get_or found 0 (pos 0) } ∷ pairs_of lines (drop 1 found)
unfolding pairs_of
pairs_more line lines found = refl

-- the pairs from a position on, as a loop meets them
abbrev pairs_from : ℕ → List ℕ → List ℤ → List Pair
pairs_from position lines found = pairs_of (drop position lines) (drop position found)

pairs_end : (position : ℕ) (lines : List ℕ) (found : List ℤ) → length lines ≤ position → pairs_from position lines found ≡ []
pairs_end position lines found h = ap (λ (l : List ℕ). pairs_of l (drop position found)) (drop_of_length-le lines h) ∙ pairs_none (drop position found)

pairs_on : (position : ℕ) (lines : List ℕ) (found : List ℤ) → position < length lines →
    pairs_from position lines found ≡ record { line = get_or lines position 0; error = get_or found position (pos 0) } ∷ pairs_from (position + 1) lines found
pairs_on position lines found more =
    ap (λ (l : List ℕ). pairs_of l (drop position found)) (drop-cons lines position 0 more)
    ∙ pairs_more (get_or lines position 0) (drop (suc position) lines) (drop position found)
    ∙ (λ i. record { line = get_or lines position 0; error = (get_or-drop position found 0 (pos 0) ∙ ap (λ (k : ℕ). get_or found k (pos 0)) (add-zero position)) i }
    ∷ pairs_of (drop (sym (add-one position) i) lines) (drop-drop 1 position found i))

-- the pairs before a position are posted, and the errors, with the pairs to come, come to what all pairs come to
pub record Posting (ledger marks : List ℕ) (errors₀ : List ℤ) (lines : List ℕ) (found : List ℤ) (position : ℕ) (errors : List ℤ) : Type 0 where
  pub inside : position ≤ length lines
  pub same : length errors ≡ length ledger
  pub whole : posted_from ledger marks position errors (pairs_from position lines found) ≡ posted_from ledger marks 0 errors₀ (pairs_of lines found)

pub posting_none : {ledger marks : List ℕ} {errors : List ℤ} {lines : List ℕ} {found : List ℤ} → Postable ledger marks errors lines found → Posting ledger marks errors lines found 0 errors
posting_none p = record { inside = zero-le; same = p.errors_same; whole = refl }

-- one pair at a position, by what its single posting says and leaves
module _ (errors : List ℤ) (next : List ℤ → Batch) (position : ℕ) where
  then_refused : (o : Outcome (List ℤ)) {n p : ℕ} {errors' : List ℤ} → ◌≡◌ {A = Outcome ℕ} (refused n p) (after (λ posted. accepted 1) (placed_at position o)) →
      errors' ≡ left (λ posted. posted) errors o → record { says = refused n p; errors = errors' } ≡ posted_then next errors (placed_at position o)
  then_refused (accepted a) e l = never e
  then_refused (refused m q) e l = λ i. record { says = e i; errors = l i }

  then_posted : (o : Outcome (List ℤ)) {n : ℕ} {errors' : List ℤ} → ◌≡◌ {A = Outcome ℕ} (accepted n) (after (λ posted. accepted 1) (placed_at position o)) →
      errors' ≡ left (λ posted. posted) errors o → posted_then next errors (placed_at position o) ≡ next errors'
  then_posted (accepted a) e l = ap next (sym l)
  then_posted (refused m q) e l = never (sym e)

-- posted or not, there are as many errors as before
pub post_long : (ledger marks : List ℕ) (errors : List ℤ) (line : ℕ) (error : ℤ) → length (left (λ posted. posted) errors (post_of ledger marks errors line error)) ≡ length errors
unfolding post_of
post_long ledger marks errors line error =
    by_test (λ (o : Outcome (List ℤ)). length (left (λ posted. posted) errors o) ≡ length errors) (equally_long (length ledger) (length marks) (length errors))
    (λ t. by (line_of ledger marks line error)) (λ t. refl)
  where
    by : (o : Outcome ℕ) → length (left (λ posted. posted) errors (after (posting errors error) o)) ≡ length errors
    by (accepted at) = length-set errors at error
    by (refused n p) = refl

module _ {ledger marks : List ℕ} {errors₀ : List ℤ} {lines : List ℕ} {found : List ℤ} {position : ℕ} {errors : List ℤ}
    (at : Posting ledger marks errors₀ lines found position errors) where
  -- one pair more; its error was read from its bits
  module _ (more : position < length lines) (fits : mag (get_or found position (pos 0)) < 2 ^ 63) {r : Result ℕ Refusal} {errors' : List ℤ}
      (promise : PairPromise ledger marks errors position (get_or lines position 0) (held (get_or found position (pos 0))) r errors') where
    abbrev next : List ℤ → Batch
    next posted = posted_from ledger marks (suc position) posted (pairs_from (position + 1) lines found)

    abbrev single : Outcome (List ℤ)
    single = post_of ledger marks errors (get_or lines position 0) (get_or found position (pos 0))

    on : posted_then next errors (placed_at position single) ≡ posted_from ledger marks 0 errors₀ (pairs_of lines found)
    on = sym (ap (posted_from ledger marks position errors) (pairs_on position lines found more) ∙ posted_more ledger marks position errors _ _) ∙ at.whole

    one : PairPromise ledger marks errors position (get_or lines position 0) (get_or found position (pos 0)) r errors'
    one = subst (λ (z : ℤ). PairPromise ledger marks errors position (get_or lines position 0) z r errors') (kept (get_or found position (pos 0)) fits) promise

    pub posting_stops : {why : Refusal} → r ≡ Err why → PairsPromise ledger marks errors₀ lines found (Err why) errors'
    posting_stops is =
        let e = then_refused errors next position single (sym (ap says is) ∙ one.answer) one.errors_left ∙ on in
        record { answer = ap (λ (b : Batch). b.says) e; errors_left = ap (λ (b : Batch). b.errors) e }

    pub posting_more : {n : ℕ} → r ≡ Ok n → Posting ledger marks errors₀ lines found (position + 1) errors'
    posting_more is =
        record {
          inside = omega arith;
          same = ap length one.errors_left ∙ post_long ledger marks errors _ _ ∙ at.same;
          whole =
              ap (λ (k : ℕ). posted_from ledger marks k errors' (pairs_from (position + 1) lines found)) (add-one position)
              ∙ sym (then_posted errors next position single (sym (ap says is) ∙ one.answer) one.errors_left) ∙ on;
        }

  -- every pair is posted
  pub posting_end : length lines ≤ position → PairsPromise ledger marks errors₀ lines found (Ok (length lines)) errors
  posting_end h =
      let inside = at.inside in
      let last : length lines ≡ position = omega arith in
      let e : ◌≡◌ {A = Batch} (record { says = accepted position; errors = errors }) (posted_from ledger marks 0 errors₀ (pairs_of lines found)) =
      sym (ap (posted_from ledger marks position errors) (pairs_end position lines found h) ∙ posted_none ledger marks position errors) ∙ at.whole in
      record { answer = ap (λ (n : ℕ). accepted n) last ∙ ap (λ (b : Batch). b.says) e; errors_left = ap (λ (b : Batch). b.errors) e }

-- as `post_all_by` meets them
module _ (ledger marks : List ℕ) (errors : List ℤ) (lines : List ℕ) (found : List ℤ) where
  -- where the lengths agree it is the pairs, posted from the first on
  pub all_from : Postable ledger marks errors lines found → post_all_of ledger marks errors lines found ≡ posted_from ledger marks 0 errors (pairs_of lines found)
  unfolding post_all_of
  all_from p =
      let same : pick (equally_long (length ledger) (length marks) (length errors)) (eqb (length found) (length lines)) false ≡ true =
      ap (λ (b : Bool). pick b (eqb (length found) (length lines)) false) (same_long (length ledger) (length marks) (length errors) p.marks_same p.errors_same) ∙ eq-eqb _ _ p.found_same in
      ap (λ (b : Bool). pick b (posted_from ledger marks 0 errors (pairs_of lines found)) (record { says = refused 13 0; errors = errors })) same

  -- where they do not, nothing is posted
  pub all_none : (pick (equally_long (length ledger) (length marks) (length errors)) (eqb (length found) (length lines)) false) ≡ false →
      post_all_of ledger marks errors lines found ≡ record { says = refused 13 0; errors = errors }
  unfolding post_all_of
  all_none e = ap (λ (b : Bool). pick b (posted_from ledger marks 0 errors (pairs_of lines found)) (record { says = refused 13 0; errors = errors })) e

  all_differ : (pick (equally_long (length ledger) (length marks) (length errors)) (eqb (length found) (length lines)) false) ≡ false →
      PostAllPromise ledger marks errors lines found (Err LengthsDiffer) errors
  all_differ e =
      let same = sym (all_none e) in
      record { answer = ap (λ (b : Batch). b.says) same; errors_left = ap (λ (b : Batch). b.errors) same }

  pub all_lengths : {many : ℕ} → length marks ≡ many → {b : Bool} → b ≡ equally_long (length ledger) many (length errors) → not b ≡ true →
      PostAllPromise ledger marks errors lines found (Err LengthsDiffer) errors
  all_lengths counted is t = all_differ (simp (sym (long_counted _ _ _ counted is) ∙ not-true _ t))

  module _ {many : ℕ} (counted : length marks ≡ many) {b : Bool} (is : b ≡ equally_long (length ledger) many (length errors)) (t : not b ≡ false) where
    pub all_lists : (length found ≡ length lines → ⊥) → PostAllPromise ledger marks errors lines found (Err LengthsDiffer) errors
    all_lists e = all_differ (simp (sym (long_counted _ _ _ counted is) ∙ not-false _ t, ne_eqb _ _ e))

    module _ (same : length found ≡ length lines) where
      pub all_postable : Postable ledger marks errors lines found
      all_postable =
          let both = long_told _ _ _ counted is t in
          record { marks_same = both.0; errors_same = both.1; found_same = same }

      pub all_posted : {r : Result ℕ Refusal} {errors' : List ℤ} → PairsPromise ledger marks errors lines found r errors' → PostAllPromise ledger marks errors lines found r errors'
      all_posted p =
          let e = all_from all_postable in
          record { answer = p.answer ∙ sym (ap (λ (x : Batch). x.says) e); errors_left = p.errors_left ∙ sym (ap (λ (x : Batch). x.errors) e) }

  -- as `post_all` meets it: all eight bits are the marks
  pub all_plain : {r : Result ℕ Refusal} {errors' : List ℤ} → PostAllPromise ledger (bits_of All marks) errors lines found r errors' → PostAllPromise ledger marks errors lines found r errors'
  all_plain {r} {errors'} = subst (λ (own : List ℕ). PostAllPromise ledger own errors lines found r errors') (bits_all marks)
