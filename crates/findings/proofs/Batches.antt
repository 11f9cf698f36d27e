-- Pairs posted from a position on: a list of them in two parts, from another position, and what they leave of the errors. Assumes nothing.
use Prim.Native.Nat.{ℕ, suc, ◌+◌}
use native.Mathlib.Omega.{arith}
use mathlib.Core.Path.{◌≡◌, refl, sym, ap, ◌∙◌}
use mathlib.Core.List.{List, [], ◌∷◌, ◌++◌}
use lib.IntN.{ℤ}
use lib.ListN.{length, set}
use Rattle.terms.specs.Outcome.{Outcome, accepted, refused, after, left}
use Rattle.terms.proofs.Outcomes.{never}
use Rattle.findings.specs.Findings.{line_of, post_of}
use Rattle.findings.specs.Batch.{Pair, Batch, placed_at, posted_then, posted_from}
use Rattle.findings.specs.OneByOne.{singly, counted_on}
use Rattle.findings.proofs.Rules.{Stands, line_stands, stands_line}
use Rattle.findings.proofs.Posting.{posting, post_same}
use Rattle.findings.proofs.Pairs.{posted_more, post_long}

-- a batch whose positions are counted on
abbrev pub moved_on : ℕ → Batch → Batch
moved_on before b = record { says = counted_on before b.says; errors = b.errors }

module _ (ledger marks : List ℕ) where
  -- further pairs, where those before them were all posted
  abbrev pub onward : List Pair → List ℤ → Outcome ℕ → Batch
  onward more errors (accepted position) = posted_from ledger marks position errors more
  onward more errors (refused number position) = record { says = refused number position; errors = errors }

  -- a list of pairs in two parts
  module _ (more : List Pair) where
    cut_by : (position : ℕ) (errors : List ℤ) (later : List Pair) →
        ((posted : List ℤ) → posted_from ledger marks (suc position) posted (later ++ more)
        ≡ onward more (posted_from ledger marks (suc position) posted later).errors (posted_from ledger marks (suc position) posted later).says) →
        (o : Outcome (List ℤ)) →
        let first = posted_then (λ posted. posted_from ledger marks (suc position) posted later) errors (placed_at position o) in
        posted_then (λ posted. posted_from ledger marks (suc position) posted (later ++ more)) errors (placed_at position o) ≡ onward more first.errors first.says
    cut_by position errors later again (accepted posted) = again posted
    cut_by position errors later again (refused n p) = refl

    pub from_cut : (position : ℕ) (errors : List ℤ) (pairs : List Pair) →
        posted_from ledger marks position errors (pairs ++ more) ≡ onward more (posted_from ledger marks position errors pairs).errors (posted_from ledger marks position errors pairs).says
    unfolding posted_from
    from_cut position errors [] = refl
    from_cut position errors (one ∷ later) =
        cut_by position errors later (λ posted. from_cut (suc position) posted later) (post_of ledger marks errors one.line one.error)

  -- from another position they come to the same, with the positions counted on
  move_by : (before position : ℕ) (errors : List ℤ) (later : List Pair) →
      ((posted : List ℤ) → posted_from ledger marks (suc (before + position)) posted later ≡ moved_on before (posted_from ledger marks (suc position) posted later)) →
      (o : Outcome (List ℤ)) → posted_then (λ posted. posted_from ledger marks (suc (before + position)) posted later) errors (placed_at (before + position) o)
      ≡ moved_on before (posted_then (λ posted. posted_from ledger marks (suc position) posted later) errors (placed_at position o))
  move_by before position errors later again (accepted posted) = again posted
  move_by before position errors later again (refused n p) = refl

  pub from_moved : (before position : ℕ) (errors : List ℤ) (pairs : List Pair) → posted_from ledger marks (before + position) errors pairs ≡ moved_on before (posted_from ledger marks position errors pairs)
  unfolding posted_from
  from_moved before position errors [] = refl
  from_moved before position errors (one ∷ later) =
      let e : suc (before + position) ≡ before + suc position = omega arith in
      move_by before position errors later (λ posted. ap (λ (k : ℕ). posted_from ledger marks k posted later) e ∙ from_moved before (suc position) posted later)
      (post_of ledger marks errors one.line one.error)

  -- there are as many errors as before
  long_by : (position : ℕ) (errors : List ℤ) (later : List Pair) → ((posted : List ℤ) → length (posted_from ledger marks (suc position) posted later).errors ≡ length posted) →
      (o : Outcome (List ℤ)) → length (left (λ posted. posted) errors o) ≡ length errors →
      length (posted_then (λ posted. posted_from ledger marks (suc position) posted later) errors (placed_at position o)).errors ≡ length errors
  long_by position errors later again (accepted posted) e = again posted ∙ e
  long_by position errors later again (refused n p) e = refl

  pub from_long : (position : ℕ) (errors : List ℤ) (pairs : List Pair) → length (posted_from ledger marks position errors pairs).errors ≡ length errors
  unfolding posted_from
  from_long position errors [] = refl
  from_long position errors (one ∷ later) =
      long_by position errors later (λ posted. from_long (suc position) posted later) (post_of ledger marks errors one.line one.error) (post_long ledger marks errors one.line one.error)

  -- an accepted batch has posted every pair, one by one
  every_by : (position : ℕ) (errors : List ℤ) (later : List Pair) (n : ℕ) →
      ((posted : List ℤ) → (posted_from ledger marks (suc position) posted later).says ≡ accepted n →
      (n ≡ suc position + length later) × ((posted_from ledger marks (suc position) posted later).errors ≡ singly ledger marks posted later)) →
      (o : Outcome (List ℤ)) → (posted_then (λ posted. posted_from ledger marks (suc position) posted later) errors (placed_at position o)).says ≡ accepted n →
      (n ≡ suc position + length later)
      × ((posted_then (λ posted. posted_from ledger marks (suc position) posted later) errors (placed_at position o)).errors ≡ singly ledger marks (left (λ posted. posted) errors o) later)
  every_by position errors later n again (accepted posted) e = again posted e
  every_by position errors later n again (refused m p) e = never e

  pub from_every : (position : ℕ) (errors : List ℤ) (pairs : List Pair) (n : ℕ) → (posted_from ledger marks position errors pairs).says ≡ accepted n →
      (n ≡ position + length pairs) × ((posted_from ledger marks position errors pairs).errors ≡ singly ledger marks errors pairs)
  unfolding posted_from singly
  from_every position errors [] n e = let same : position ≡ n = cc in (omega arith, refl)
  from_every position errors (one ∷ later) n e =
      let both = every_by position errors later n (λ posted. from_every (suc position) posted later n) (post_of ledger marks errors one.line one.error) e in
      (omega (arith, both.0), both.1)

  -- Where marks and errors are beside the ledger, a pair is posted exactly where its finding may stand.
  module _ (marks_same : length marks ≡ length ledger) where
    module _ (position : ℕ) (errors : List ℤ) (errors_same : length errors ≡ length ledger) (one : Pair) (later : List Pair) where
      pub stands_on : Stands ledger marks one.line one.error →
          posted_from ledger marks position errors (one ∷ later) ≡ posted_from ledger marks (suc position) (set errors one.line one.error) later
      stands_on at =
          posted_more ledger marks position errors one later
          ∙ ap (λ (o : Outcome (List ℤ)). posted_then (λ posted. posted_from ledger marks (suc position) posted later) errors (placed_at position o))
          (post_same ledger marks errors one.line one.error marks_same errors_same
          ∙ ap (after (posting errors one.error)) (line_stands ledger marks one.line one.error at))

      -- a pair that is refused ends it
      pub data Turn : Type 0 where
        goes : Stands ledger marks one.line one.error → Turn
        stops : (n p : ℕ) → posted_from ledger marks position errors (one ∷ later) ≡ record { says = refused n p; errors = errors } → Turn

      turn_by : (o : Outcome ℕ) → line_of ledger marks one.line one.error ≡ o → Turn
      turn_by (accepted at) e = goes (stands_line ledger marks one.line one.error e).1
      turn_by (refused n p) e =
          stops n position
          (posted_more ledger marks position errors one later
          ∙ ap (λ (o : Outcome (List ℤ)). posted_then (λ posted. posted_from ledger marks (suc position) posted later) errors (placed_at position o))
          (post_same ledger marks errors one.line one.error marks_same errors_same ∙ ap (after (posting errors one.error)) e))

      pub turn : Turn
      turn = turn_by (line_of ledger marks one.line one.error) refl

      pub accepted_stands : (n : ℕ) → (posted_from ledger marks position errors (one ∷ later)).says ≡ accepted n → Stands ledger marks one.line one.error
      accepted_stands n e = elim turn [ goes at ↦ at | stops m p same ↦ never (sym (ap (λ (b : Batch). b.says) same) ∙ e) ]
