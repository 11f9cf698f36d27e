-- There and back, from what the writer and the reader promise: the numbers of what is lent fit their bytes by their types. Assumes nothing.
use Prim.Native.Nat.{ℕ, ◌+◌, ◌^◌, ◌<◌, ◌≤◌}
use Rattle.std.specs.Prelude.{Result, Ok, Err}
use native.Mathlib.Omega.{arith}
use mathlib.Core.Path.{◌≡◌, sym, ap, subst, ◌∙◌}
use mathlib.Core.Logic.{◌⊎◌, inl, inr}
use mathlib.Core.List.{List}
use lib.IntN.{ℤ, pos}
use lib.Signed.{mag}
use lib.ListN.{length, get_or, take, get_or-eq_default}
use Rattle.terms.specs.declared.Refusal.{Refusal}
use Rattle.terms.specs.Outcome.{accepted, after, left, says}
use Rattle.terms.proofs.Outcomes.{after_accepted}
use Rattle.terms.proofs.Answers.{says_once}
use Rattle.terms.proofs.Tests.{le_or_lt}
use Rattle.signed.specs.Errors.{Holdable, AllHeld}
use Rattle.signed.proofs.Laws.{held_size, none_held}
use Rattle.workfile.specs.declared.Plan.{Plan}
use Rattle.workfile.specs.declared.Contents.{Contents}
use Rattle.workfile.specs.Numbers.{Bytes}
use Rattle.workfile.specs.Content.{longest_file}
use Rattle.workfile.specs.Promises.{over, counted, write_of, plan_with, content_with, Rooms, ReadPromise, WritePromise}
use Rattle.workfile.proofs.OneFile.{one_file}
use Rattle.workfile.proofs.RoundTrip.{Fit}
use Rattle.workfile.proofs.Longest.{no_longer}
use Rattle.workfile.proofs.Promises.{written_is_read, read_is_written}
use Rattle.workfile.proofs.Held.{AtRead, read_refused, decodes}
use Rattle.roundtrip.specs.RoundTrip.{WriteThenRead, ReadThenWrite}

-- A content that was to be written.
module _ {plan : Plan} {words values file file' : List ℕ} {errors : List ℤ} {r : Result ℕ Refusal} (p : WritePromise plan words values errors file r file') where
  module _ {n : ℕ} (is : r ≡ Ok n) where
    -- the file that was written reads back to what was handed in
    pub written_read : {w v w' v' : List ℕ} {e e' : List ℤ} {q : Result Contents Refusal} → Fit (content_with plan words values errors) → Rooms w v e → ReadPromise (take n file') w v e q w' v' e' →
        WriteThenRead plan words values errors file w v e q file' w' v' e'
    written_read {w} {v} {e} fit rooms back =
        let c = content_with plan words values errors in
        let o = (after_accepted (λ bytes. accepted (length bytes)) (write_of c (length file)) n (sym p.answer ∙ ap says is)).1 in
        let same = written_is_read n fit p (ap says is) rooms back in
        record {
          answer = same.0 ∙ sym (ap (after (λ bytes. accepted (counted c))) o);
          file_left = p.file_left;
          words_left = same.1 ∙ sym (ap (left (λ bytes. over words w) w) o);
          values_left = same.2 ∙ sym (ap (left (λ bytes. over values v) v) o);
          errors_left = same.3 ∙ sym (ap (left (λ bytes. over errors e) e) o);
        }

-- A file that was to be read.
pub was_read : {file w v w' v' : List ℕ} {e e' : List ℤ} {r : Result Contents Refusal} {k : Contents} → ReadPromise file w v e r w' v' e' → Rooms w v e → r ≡ Ok k → AtRead file k w' v' e'
was_read promise rooms told = record { words = _; values = _; errors = _; answer = _; rooms = rooms; promise = promise; told = told }

module _ {file again : List ℕ} (bytes : Bytes file) where
  pub file_refused : {w v w' v' : List ℕ} {e e' : List ℤ} {r : Result Contents Refusal} {why : Refusal} → Rooms w v e → ReadPromise file w v e r w' v' e' → r ≡ Err why →
      ReadThenWrite file again (Err why) again
  file_refused {why} rooms p is =
      let o = read_refused rooms p why is in
      record {
        answer = sym (ap (after (λ content. accepted (length file))) o);
        again_left = sym (ap (left (λ content. over file again) again) o);
        only_file = λ content. one_file file content bytes;
      }

  pub file_again : {w v again' : List ℕ} {e : List ℤ} {k : Contents} {q : Result ℕ Refusal} → AtRead file k w v e → longest_file ≤ length again →
      WritePromise (plan_with k.level k.te k.ae) (take k.words w) (take k.lines v) (take k.lines e) again q again' → ReadThenWrite file again q again'
  file_again {k} at room p =
      let o = decodes at in
      let same = read_is_written k bytes at.promise (ap says at.told) (omega (arith, room, no_longer file _ bytes o)) p in
      record {
        answer = same.0 ∙ sym (ap (after (λ content. accepted (length file))) o);
        again_left = same.1 ∙ sym (ap (left (λ content. over file again) again) o);
        only_file = λ content. one_file file content bytes;
      }

-- the errors before a line were read, and fit 64 bits
pub record ReadTo (errors : List ℤ) (line : ℕ) : Type 0 where
  pub within : line ≤ length errors
  pub held : (i : ℕ) → i < line → Holdable (get_or errors i (pos 0))

pub none_read : (errors : List ℤ) → ReadTo errors 0
none_read errors = record { within = omega arith; held = λ i h. absurd (omega arith) }

module _ {errors : List ℤ} {line : ℕ} (at : ReadTo errors line) where
  pub one_read : line < length errors → mag (get_or errors line (pos 0)) < 2 ^ 63 → ReadTo errors (line + 1)
  one_read h fits = record { within = omega arith; held = λ i k. go i (le_or_lt (i + 1) line) k }
    where
      go : (i : ℕ) → (i + 1 ≤ line) ⊎ (line < i + 1) → i < line + 1 → Holdable (get_or errors i (pos 0))
      go i (inl k) n = at.held i (omega arith)
      go i (inr k) n = let z : line ≡ i = omega arith in subst (λ (j : ℕ). Holdable (get_or errors j (pos 0))) z (held_size (get_or errors line (pos 0)) fits)

  pub all_read : length errors ≤ line → AllHeld errors
  all_read h i = go (le_or_lt (i + 1) line)
    where
      go : (i + 1 ≤ line) ⊎ (line < i + 1) → Holdable (get_or errors i (pos 0))
      go (inl k) = at.held i (omega arith)
      go (inr k) = subst Holdable (sym (get_or-eq_default errors (pos 0) (omega arith))) none_held

-- any two results that meet a promise agree
pub write_read_once : {plan : Plan} {ws vs f w v f₁ w₁ v₁ f₂ w₂ v₂ : List ℕ} {es e e₁ e₂ : List ℤ} {r₁ r₂ : Result Contents Refusal} → WriteThenRead plan ws vs es f w v e r₁ f₁ w₁ v₁ e₁ →
    WriteThenRead plan ws vs es f w v e r₂ f₂ w₂ v₂ e₂ → (r₁ ≡ r₂) × (f₁ ≡ f₂) × (w₁ ≡ w₂) × (v₁ ≡ v₂) × (e₁ ≡ e₂)
write_read_once {r₁} {r₂} p q = (
  says_once r₁ r₂ p.answer q.answer,
  p.file_left ∙ sym q.file_left,
  p.words_left ∙ sym q.words_left,
  p.values_left ∙ sym q.values_left,
  p.errors_left ∙ sym q.errors_left,
)

pub read_write_once : {f a a₁ a₂ : List ℕ} {r₁ r₂ : Result ℕ Refusal} → ReadThenWrite f a r₁ a₁ → ReadThenWrite f a r₂ a₂ → (r₁ ≡ r₂) × (a₁ ≡ a₂)
read_write_once {r₁} {r₂} p q = (says_once r₁ r₂ p.answer q.answer, p.again_left ∙ sym q.again_left)
