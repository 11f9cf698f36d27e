-- The whole file, and the writer's promise case by case. Assumes nothing.
use Prim.Native.Nat.{ℕ, ◌+◌, ◌*◌, ◌<◌, ◌≤◌}
use Rattle.std.specs.Prelude.{Option, Some, None, Ok, Err}
use mathlib.Core.Path.{◌≡◌, ap, ap₂, subst, sym, ◌∙◌}
use mathlib.Core.List.{List, ◌∷◌, ◌++◌}
use native.Mathlib.Omega.{arith}
use lib.Dec.{ltb}
use lib.IntN.{ℤ}
use borrow.Author.Tests.{ltb-true, ltb-false}
use lib.ListN.{length, length-append}
use Rattle.terms.specs.Outcome.{accepted, refused_by, after, left}
use Rattle.terms.specs.Numbers.{sum}
use Rattle.terms.specs.declared.Refusal.{Refusal}
use Rattle.terms.specs.declared.Refusal.TheVariants.{NoLegalFile, RoomTooShort}
use Rattle.terms.proofs.Tests.{by_test}
use Rattle.workfile.specs.Numbers.{bytes}
use Rattle.workfile.specs.Content.{Content, most_words, most_file_lines, sum_bound, plan_bytes, bytes_of, error_records, closing, encode, Counts}
use Rattle.workfile.specs.Promises.{over, write_of, content_with, WritePromise}
use Rattle.workfile.specs.declared.Plan.{Plan}
use Rattle.workfile.proofs.Growing.{encode_parts, length_encode}
use Rattle.workfile.proofs.Promises as law
use Rattle.writer.specs.Parts.{Laid, rows, front_bytes, error_bytes, total_of, HasRoom}
use Rattle.writer.proofs.Laying.{lay_over, laid_on}
use Rattle.writer.proofs.Rows.{rows_words, rows_values, length_rows, length_error_bytes}

-- the parts of a file
parts : (c : Content) → front_bytes c.plan c.words c.values ++ error_bytes 0 c.errors ++ bytes_of (closing c) ≡ encode c
unfolding error_bytes
parts c =
    ap₂ (λ (w v : List ℕ). plan_bytes c.plan ++ w ++ v ++ error_bytes 0 c.errors ++ bytes_of (closing c)) (rows_words c.words) (rows_values c.values) ∙ encode_parts c

pub whole_file : (c : Content) {f₀ f₁ f₂ f₃ : List ℕ} {n₁ n₂ n₃ : ℕ} (total : ℕ) → Laid f₀ 0 (front_bytes c.plan c.words c.values) f₁ n₁ → Laid f₁ n₁ (error_bytes 0 c.errors) f₂ n₂
    → total ≡ sum c.values → Laid f₂ n₂ (0x5A ∷ (bytes 4 (length c.values) ++ bytes 8 total)) f₃ n₃ → Laid f₀ 0 (encode c) f₃ n₃
whole_file c {f₀} {f₂} {f₃} {n₂} {n₃} total a e t z =
    let end : Laid f₂ n₂ (bytes_of (closing c)) f₃ n₃ = subst (λ (x : ℕ). Laid f₂ n₂ (0x5A ∷ (bytes 4 (length c.values) ++ bytes 8 x)) f₃ n₃) t z in
    subst (λ (l : List ℕ). Laid f₀ 0 l f₃ n₃) (parts c) (laid_on (laid_on a e) end)

-- and their room
length_front : (p : Plan) (w v : List ℕ) → length (front_bytes p w v) ≡ 18 + 9 * length w + 9 * length v
length_front p w v =
    length-append (plan_bytes p ++ rows 0x57 w) (rows 0x4C v) ∙ omega (arith, length-append (plan_bytes p) (rows 0x57 w), length_rows 0x57 w, length_rows 0x4C v)

pub has_room : (p : Plan) (w v : List ℕ) (e : List ℤ) (room : ℕ) → 31 + 9 * length w + 9 * length v + 13 * length (error_records 0 e) ≤ room → HasRoom (content_with p w v e) room
has_room p w v e room h = record { front = length_front p w v; fits = omega (arith, length_error_bytes e) }

-- what the total says
module _ (vs : List ℕ) where
  by_sum : (P : Option ℕ → Type 0) → (sum vs < sum_bound → P (Some (sum vs))) → (sum_bound ≤ sum vs → P None) → P (total_of vs)
  unfolding total_of
  by_sum P small big = by_test P (ltb (sum vs) sum_bound) (λ h. small (ltb-true _ _ h)) (λ h. big (ltb-false _ _ h))

  pub its_sum : (s : ℕ) → Some s ≡ total_of vs → s ≡ sum vs
  its_sum s = by_sum (λ x. Some s ≡ x → s ≡ sum vs) (λ h e. cc) (λ h e. absurd (let z : ◌≡◌ {A = ℕ} 0 1 = cc in omega arith))

  pub small_sum : (s : ℕ) → Some s ≡ total_of vs → sum vs < sum_bound
  small_sum s = by_sum (λ x. Some s ≡ x → sum vs < sum_bound) (λ h e. h) (λ h e. absurd (let z : ◌≡◌ {A = ℕ} 0 1 = cc in omega arith))

  past_sum : (t : Option ℕ) → t ≡ total_of vs → ((s : ℕ) → t ≡ Some s → ⊥) → sum_bound ≤ sum vs
  past_sum t is none = by_sum (λ x. t ≡ x → sum_bound ≤ sum vs) (λ h e. absurd (none (sum vs) e)) (λ h e. h) is

module _ (p : Plan) (w v : List ℕ) (e : List ℤ) (f : List ℕ) where
  abbrev c : Content
  c = content_with p w v e

  refuse : (why : Refusal) → write_of c (length f) ≡ refused_by why → WritePromise p w v e f (Err why) f
  refuse why q = record { answer = sym (ap (after (λ bs. accepted (length bs))) q); file_left = sym (ap (left (λ bs. over bs f) f) q) }

  pub past : length e ≡ length v → length w ≤ most_words → (t : Option ℕ) → t ≡ total_of v → ((s : ℕ) → t ≡ Some s → ⊥) → length v ≤ most_file_lines
      → WritePromise p w v e f (Err NoLegalFile) f
  past same few t is none h = refuse NoLegalFile (law.sum_past c (length f) same few h (past_sum v t is none))

  -- the room decides
  module _ (k : Counts (content_with p w v e)) where
    pub no_room : (n : ℕ) → n ≡ 31 + 9 * length w + 9 * length v + 13 * length (error_records 0 e) → length f < n → WritePromise p w v e f (Err (RoomTooShort n)) f
    no_room n needed h =
        let long : n ≡ length (encode c) = needed ∙ sym (length_encode c) in
        refuse (RoomTooShort n) (law.counts_short c (length f) k (omega arith) ∙ ap (λ (m : ℕ). refused_by (RoomTooShort m)) (sym long))

    pub written : {f' : List ℕ} {m : ℕ} → 31 + 9 * length w + 9 * length v + 13 * length (error_records 0 e) ≤ length f → Laid f 0 (encode c) f' m
        → WritePromise p w v e f (Ok m) f'
    written h d =
        let room : length (encode c) ≤ length f = omega (arith, length_encode c) in
        let g = law.counts_write c (length f) k room in
        record {
          answer = ap accepted (d.ends ∙ omega arith) ∙ sym (ap (after (λ bs. accepted (length bs))) g);
          file_left = d.same ∙ lay_over f (encode c) room ∙ sym (ap (left (λ bs. over bs f) f) g);
        }
