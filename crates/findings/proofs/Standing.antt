-- What stands in the errors after pairs: on each line the last pair's error, where a finding may stand; and pairs of different lines change places. Assumes nothing.
use Prim.Native.Nat.{ℕ, zero, suc, ◌<◌}
use native.Mathlib.Nat.{not-suc-le-zero, le_of_suc-le-suc}
use native.Mathlib.Omega.{arith}
use mathlib.Core.Path.{◌≡◌, refl, sym, ap, subst, subst⁻¹, ◌∙◌}
use mathlib.Core.Bool.{Bool, true, false}
use mathlib.Core.List.{List, [], ◌∷◌}
use lib.Dec.{eqb}
use lib.IntN.{ℤ, pos}
use lib.ListN.{length, get_or, set, drop, length-set}
use lib.Seq.{get_or-set_same, get_or-set_other, set_comm}
use borrow.Author.Tests.{eqb-true, eqb-false}
use Rattle.terms.specs.Outcome.{accepted}
use Rattle.terms.specs.Numbers.{pick}
use Rattle.findings.specs.Batch.{Pair, Batch, pairs_of, posted_from}
use Rattle.findings.specs.OneByOne.{last_found}
use Rattle.findings.proofs.Rules.{Stands}
use Rattle.findings.proofs.Batches.{Turn, goes, stops, turn, stands_on, accepted_stands}

-- what is on a line may stand there
abbrev pub Standing : List ℕ → List ℕ → List ℤ → ℕ → Type 0
Standing ledger marks errors line = Stands ledger marks line (get_or errors line (pos 0))

-- the error of a line once one is posted
set_at : (errors : List ℤ) (at line : ℕ) (error : ℤ) → at < length errors → (b : Bool) → eqb at line ≡ b → get_or (set errors at error) line (pos 0) ≡ pick b error (get_or errors line (pos 0))
set_at errors at line error inside true e =
    ap (λ (k : ℕ). get_or (set errors k error) line (pos 0)) (eqb-true at line e) ∙ get_or-set_same errors line error (pos 0) (omega (arith, eqb-true at line e))
set_at errors at line error inside false e = get_or-set_other errors at line error (pos 0) (λ same. eqb-false at line e (sym same))

module _ (ledger marks : List ℕ) (marks_same : length marks ≡ length ledger) where
  next_same : (errors : List ℤ) → length errors ≡ length ledger → (line : ℕ) (error : ℤ) → length (set errors line error) ≡ length ledger
  next_same errors same line error = length-set errors line error ∙ same

  module _ (position : ℕ) (errors : List ℤ) (errors_same : length errors ≡ length ledger) where
    -- pairs of different lines change places
    pub from_swapped : (one two : Pair) (later : List Pair) → Stands ledger marks one.line one.error → Stands ledger marks two.line two.error → ¬ (one.line ≡ two.line) →
        posted_from ledger marks position errors (one ∷ two ∷ later) ≡ posted_from ledger marks position errors (two ∷ one ∷ later)
    from_swapped one two later first second differ =
        stands_on ledger marks marks_same position errors errors_same one (two ∷ later) first
        ∙ stands_on ledger marks marks_same (suc position) (set errors one.line one.error) (next_same errors errors_same one.line one.error) two later second
        ∙ ap (λ (l : List ℤ). posted_from ledger marks (suc (suc position)) l later) (set_comm errors one.line two.line one.error two.error differ)
        ∙ sym (stands_on ledger marks marks_same position errors errors_same two (one ∷ later) second
        ∙ stands_on ledger marks marks_same (suc position) (set errors two.line two.error) (next_same errors errors_same two.line two.error) one later first)

  -- an accepted list leaves on each line the error that it has last for it
  pub from_last : (position : ℕ) (errors : List ℤ) (pairs : List Pair) (n : ℕ) → length errors ≡ length ledger → (posted_from ledger marks position errors pairs).says ≡ accepted n → (line : ℕ) →
      get_or (posted_from ledger marks position errors pairs).errors line (pos 0) ≡ last_found line pairs (get_or errors line (pos 0))
  unfolding posted_from last_found
  from_last position errors [] n same e line = refl
  from_last position errors (one ∷ later) n same e line =
      let at = accepted_stands ledger marks marks_same position errors same one later n e in
      let on = stands_on ledger marks marks_same position errors same one later at in
      let next : List ℤ = set errors one.line one.error in
      ap (λ (b : Batch). get_or b.errors line (pos 0)) on
      ∙ from_last (suc position) next later n (next_same errors same one.line one.error) (sym (ap (λ (b : Batch). b.says) on) ∙ e) line
      ∙ ap (last_found line later) (set_at errors one.line line one.error (omega (arith, at.inside, same)) (eqb one.line line) refl)

  -- a finding that may stand on a line stands there once it is posted
  posted_standing : (errors : List ℤ) (one : Pair) → length errors ≡ length ledger → Stands ledger marks one.line one.error → (line : ℕ) → one.line ≡ line →
      Standing ledger marks (set errors one.line one.error) line
  posted_standing errors one same at line is =
      subst (λ (k : ℕ). Standing ledger marks (set errors one.line one.error) k) is
      (subst⁻¹ (Stands ledger marks one.line) (get_or-set_same errors one.line one.error (pos 0) (omega (arith, at.inside, same))) at)

  -- and what stood on another line stands on
  kept_standing : (errors : List ℤ) (one : Pair) → length errors ≡ length ledger → Stands ledger marks one.line one.error → (line : ℕ) → Standing ledger marks errors line → (b : Bool) → eqb one.line line ≡ b →
      Standing ledger marks (set errors one.line one.error) line
  kept_standing errors one same at line stood true e = posted_standing errors one same at line (eqb-true one.line line e)
  kept_standing errors one same at line stood false e =
      subst⁻¹ (Stands ledger marks line) (get_or-set_other errors one.line line one.error (pos 0) (λ k. eqb-false one.line line e (sym k))) stood

  -- posted to the end or stopped
  pub from_standing : (position : ℕ) (errors : List ℤ) (pairs : List Pair) → length errors ≡ length ledger → (line : ℕ) → Standing ledger marks errors line →
      Standing ledger marks (posted_from ledger marks position errors pairs).errors line
  unfolding posted_from
  from_standing position errors [] same line stood = stood
  from_standing position errors (one ∷ later) same line stood =
      by (turn ledger marks marks_same position errors same one later)
      (λ at. from_standing (suc position) (set errors one.line one.error) later (next_same errors same one.line one.error) line
      (kept_standing errors one same at line stood (eqb one.line line) refl))
    where
      by : Turn ledger marks marks_same position errors same one later →
          (Stands ledger marks one.line one.error → Standing ledger marks (posted_from ledger marks (suc position) (set errors one.line one.error) later).errors line) →
          Standing ledger marks (posted_from ledger marks position errors (one ∷ later)).errors line
      by (goes at) again =
          subst⁻¹ (λ (b : Batch). Standing ledger marks b.errors line) (stands_on ledger marks marks_same position errors same one later at) (again at)
      by (stops m p e) again = subst⁻¹ (λ (b : Batch). Standing ledger marks b.errors line) e stood

  -- an accepted list leaves on the line of each pair a finding that may stand there
  pub from_posted : (position : ℕ) (errors : List ℤ) (lines : List ℕ) (found : List ℤ) (n : ℕ) → length errors ≡ length ledger →
      (posted_from ledger marks position errors (pairs_of lines found)).says ≡ accepted n → (i : ℕ) → i < length lines →
      Standing ledger marks (posted_from ledger marks position errors (pairs_of lines found)).errors (get_or lines i 0)
  unfolding pairs_of
  from_posted position errors [] found n same e i h = absurd (not-suc-le-zero h)
  from_posted position errors (line ∷ lines) found n same e i h =
      let one : Pair = record { line = line; error = get_or found 0 (pos 0) } in
      let later : List Pair = pairs_of lines (drop 1 found) in
      let at = accepted_stands ledger marks marks_same position errors same one later n e in
      let on = stands_on ledger marks marks_same position errors same one later at in
      let next : List ℤ = set errors line (get_or found 0 (pos 0)) in
      let long = next_same errors same line (get_or found 0 (pos 0)) in
      subst⁻¹ (λ (b : Batch). Standing ledger marks b.errors (get_or (line ∷ lines) i 0)) on
      (by (posted_from ledger marks (suc position) next later).errors i h (from_standing (suc position) next later long line (posted_standing errors one same at line refl))
      (from_posted (suc position) next lines (drop 1 found) n long (sym (ap (λ (b : Batch). b.says) on) ∙ e)))
    where
      by : (errors' : List ℤ) (k : ℕ) → k < length (line ∷ lines) → Standing ledger marks errors' line → ((j : ℕ) → j < length lines → Standing ledger marks errors' (get_or lines j 0)) → Standing ledger marks errors' (get_or (line ∷ lines) k 0)
      by errors' zero k first rest = first
      by errors' (suc j) k first rest = rest j (le_of_suc-le-suc k)
