-- What the rules keep true of the content read so far, and what one record adds to it. Assumes nothing.
use Prim.Native.Nat.{ℕ, ◌+◌, ◌*◌, ◌<◌, ◌≤◌}
use mathlib.Core.Path.{◌≡◌, refl, ap, ap₂, sym, ◌∙◌}
use mathlib.Core.Bool.{false}
use mathlib.Core.List.{List, [], ◌∷◌, ◌++◌, map, map-append, append-nil, append_assoc}
use native.Mathlib.Omega.{arith}
use lib.ListN.{length, length-append, length-replicate}
use Rattle.terms.specs.Numbers.{sum}
use Rattle.terms.proofs.Sums.{sum_append}
use Rattle.workfile.specs.Content.{Content, most_words, most_file_lines, sum_bound, plan_bytes, bytes_of, bytes_of_all, error_records, between, closing, encode}
use Rattle.workfile.specs.Decode.{size, is_end, tally_of, grow, start}
use Rattle.workfile.specs.Rules.{Rule}
use Rattle.workfile.specs.Promises.{counted}
use Rattle.workfile.specs.declared.Plan.{Plan}
use Rattle.workfile.specs.declared.FileRecord.{FileRecord}
use Rattle.workfile.specs.declared.FileRecord.TheVariants.{Word, Value, ErrorOf, End, Nothing}
use Rattle.workfile.proofs.Records.{length_record}
use Rattle.workfile.proofs.Lists.{nil_of_length, bytes_append, length_pad, errors_pad, errors_more, length_words, length_values, length_errors, few_errors}

pub record SoFar (c : Content) : Type 0 where
  pub sound : length c.errors ≤ length c.values
  pub few_words : length c.words ≤ most_words
  pub few_lines : length c.values ≤ most_file_lines
  pub total : sum c.values < sum_bound

pub at_first : (p : Plan) → SoFar (start p)
at_first p = record { sound = omega arith; few_words = omega arith; few_lines = omega arith; total = omega arith }

pub one_more : (c : Content) (r : FileRecord) → Rule (tally_of c) r → SoFar c → SoFar (grow c r)
unfolding grow
one_more c (Word w) h s = record { sound = s.sound; few_words = simp length-append (omega (arith, h.1)); few_lines = s.few_lines; total = s.total }
one_more c (Value v) h s =
    record {
      sound = simp length-append (omega (arith, s.sound));
      few_words = s.few_words;
      few_lines = simp length-append (omega (arith, h.1.0));
      total = simp sum_append (omega (arith, h.1.1));
    }
one_more c (ErrorOf u l n) h s =
    record { sound = simp (length-append, length-replicate) (omega (arith, h.0, h.1.0)); few_words = s.few_words; few_lines = s.few_lines; total = s.total }
one_more c (End n t) h s =
    record { sound = rw (length_pad n c.errors (omega (arith, h.0, s.sound))) (omega (arith, h.0)); few_words = s.few_words; few_lines = s.few_lines; total = s.total }
one_more c Nothing h s = absurd h

-- the plan stays
pub plan_grow : (c : Content) (r : FileRecord) → (grow c r).plan ≡ c.plan
unfolding grow
plan_grow c (Word w) = refl
plan_grow c (Value v) = refl
plan_grow c (ErrorOf u l n) = refl
plan_grow c (End n s) = refl
plan_grow c Nothing = refl

-- a record that is not Z comes after those between P and Z
pub between_grow : (c : Content) (r : FileRecord) → Rule (tally_of c) r → SoFar c → is_end r ≡ false → between (grow c r) ≡ between c ++ (r ∷ [])
unfolding grow
between_grow c (Word w) h s i =
    let v : c.values ≡ [] = nil_of_length c.values h.0 in
    let e : c.errors ≡ [] = nil_of_length c.errors (omega (arith, h.0, s.sound)) in
    rw (v, e) (simp (map-append, append-nil))
between_grow c (Value x) h s i =
    let e : c.errors ≡ [] = nil_of_length c.errors h.0 in
    rw e (simp (map-append, append-nil, append_assoc))
between_grow c (ErrorOf u l n) h s i = rw (errors_more u l n c.errors h.0 h.1.1.0) (simp append_assoc)
between_grow c (End n t) h s i = absurd (let z : ◌≡◌ {A = ℕ} 0 1 = cc in omega arith)
between_grow c Nothing h s i = absurd h

-- the bytes of the records read so far
abbrev pub front : Content → List ℕ
front c = plan_bytes c.plan ++ bytes_of_all (between c)

pub front_grow : (c : Content) (r : FileRecord) → Rule (tally_of c) r → SoFar c → is_end r ≡ false → front (grow c r) ≡ front c ++ bytes_of r
front_grow c r h s i =
    let more : bytes_of_all (between (grow c r)) ≡ bytes_of_all (between c) ++ bytes_of r =
    ap bytes_of_all (between_grow c r h s i) ∙ bytes_append (between c) (r ∷ []) ∙ ap (λ (l : List ℕ). bytes_of_all (between c) ++ l) (append-nil (bytes_of r)) in
    ap₂ (λ p (l : List ℕ). plan_bytes p ++ l) (plan_grow c r) more ∙ sym (append_assoc (plan_bytes c.plan) (bytes_of_all (between c)) (bytes_of r))

-- Z adds no such record
pub front_end : (c : Content) (n s : ℕ) → front (grow c (End n s)) ≡ front c
unfolding grow
front_end c n s = ap (λ (l : List FileRecord). plan_bytes c.plan ++ bytes_of_all (map Word c.words ++ map Value c.values ++ l)) (errors_pad n c.errors)

pub counted_end : (c : Content) (n s : ℕ) → counted (grow c (End n s)) ≡ counted c
unfolding grow
counted_end c n s = refl

-- the content that Z completes has an error for each line
pub end_same : (c : Content) (n s : ℕ) → SoFar c → Rule (tally_of c) (End n s) → length (grow c (End n s)).errors ≡ length (grow c (End n s)).values
unfolding grow
end_same c n s f h = length_pad n c.errors (omega (arith, h.0, f.sound)) ∙ h.0

-- lengths
pub length_between : (c : Content) → length (bytes_of_all (between c)) ≡ 9 * length c.words + 9 * length c.values + 13 * length (error_records 0 c.errors)
length_between c =
    let w = map Word c.words in
    let v = map Value c.values in
    let e = error_records 0 c.errors in
    ap length (bytes_append (w ++ v) e ∙ ap (λ (l : List ℕ). l ++ bytes_of_all e) (bytes_append w v))
    ∙ omega (
      arith,
      length-append (bytes_of_all w ++ bytes_of_all v) (bytes_of_all e),
      length-append (bytes_of_all w) (bytes_of_all v),
      length_words c.words,
      length_values c.values,
      length_errors 0 c.errors,
    )

pub length_encode : (c : Content) → length (encode c) ≡ 31 + 9 * length c.words + 9 * length c.values + 13 * length (error_records 0 c.errors)
unfolding encode
length_encode c = length-append (front c) (bytes_of (closing c)) ∙ omega (arith, length_between c)

-- a file by its parts: P, the records of each kind, and Z
pub encode_parts : (c : Content) → plan_bytes c.plan ++ bytes_of_all (map Word c.words) ++ bytes_of_all (map Value c.values) ++ bytes_of_all (error_records 0 c.errors) ++ bytes_of (closing c) ≡ encode c
unfolding encode
encode_parts c =
    let w = map Word c.words in
    let v = map Value c.values in
    let e = error_records 0 c.errors in
    let inner : bytes_of_all (between c) ≡ bytes_of_all w ++ bytes_of_all v ++ bytes_of_all e =
    bytes_append (w ++ v) e ∙ ap (λ (l : List ℕ). l ++ bytes_of_all e) (bytes_append w v) in
    regroup (plan_bytes c.plan) (bytes_of_all w) (bytes_of_all v) (bytes_of_all e) (bytes_of (closing c)) ∙ ap (λ (l : List ℕ). plan_bytes c.plan ++ l ++ bytes_of (closing c)) (sym inner)
  where
    regroup : (p a b e z : List ℕ) → p ++ a ++ b ++ e ++ z ≡ p ++ (a ++ b ++ e) ++ z
    regroup p a b e z = simp append_assoc

-- the records before Z end 13 bytes before the longest file does
pub front_short : (c : Content) → SoFar c → length (front c) ≤ 45650
front_short c s = omega (arith, length_between c, few_errors 0 c.errors, s.sound, s.few_words, s.few_lines)

pub length_front : (c : Content) (r : FileRecord) → Rule (tally_of c) r → SoFar c → is_end r ≡ false → length (front (grow c r)) ≡ length (front c) + size r
length_front c r h s i = ap length (front_grow c r h s i) ∙ length-append (front c) (bytes_of r) ∙ ap (λ (n : ℕ). length (front c) + n) (length_record r)
