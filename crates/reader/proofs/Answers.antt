-- The reader's promise, case by case. Assumes nothing.
use Prim.Native.Nat.{ℕ}
use Rattle.std.specs.Prelude.{Ok, Err}
use mathlib.Core.Path.{◌≡◌, ap, sym, ◌∙◌}
use mathlib.Core.List.{List}
use lib.IntN.{ℤ}
use lib.ListN.{length}
use Rattle.terms.specs.Outcome.{accepted, refused_by, left}
use Rattle.terms.specs.declared.Refusal.{Refusal}
use Rattle.terms.proofs.Outcomes.{after_accepted, refused_first}
use Rattle.workfile.specs.Decode.{decode}
use Rattle.workfile.specs.Promises.{over, counts_of, read_of, Rooms, ReadPromise}
use Rattle.workfile.specs.declared.Contents.{Contents}
use Rattle.workfile.proofs.Promises.{roomy}
use Rattle.reader.specs.Steps.{check_of, IsLegal, Stored}

module _ (f w v : List ℕ) (e : List ℤ) where
  refuse : (why : Refusal) → read_of f (length w) (length v) (length e) ≡ refused_by why → ReadPromise f w v e (Err why) w v e
  refuse why q = record {
    answer = sym (ap counts_of q);
    words_left = sym (ap (left (λ c. over c.words w) w) q);
    values_left = sym (ap (left (λ c. over c.values v) v) q);
    errors_left = sym (ap (left (λ c. over c.errors e) e) q);
  }

  pub broken_file : (why : Refusal) → Rooms w v e → refused_by why ≡ check_of (decode f) → ReadPromise f w v e (Err why) w v e
  broken_file why m q = refuse why (roomy f w v e m ∙ refused_first (λ c. tt) (decode f) q)

  pub read_file : {k : Contents} {w' v' : List ℕ} {e' : List ℤ} → Rooms w v e → Stored f w v e k w' v' e' → ReadPromise f w v e (Ok k) w' v' e'
  read_file m s =
      let o = sym (roomy f w v e m) in
      record {
        answer = s.answer ∙ ap counts_of o;
        words_left = s.words ∙ ap (left (λ c. over c.words w) w) o;
        values_left = s.values ∙ ap (left (λ c. over c.values v) v) o;
        errors_left = s.errors ∙ ap (left (λ c. over c.errors e) e) o;
      }

pub is_legal : (f : List ℕ) → accepted tt ≡ check_of (decode f) → IsLegal f
is_legal f q = let x = after_accepted (λ c. accepted tt) (decode f) tt (sym q) in (x.0, x.1)
