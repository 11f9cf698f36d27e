-- A record and its bytes: each is found again from the other, and no byte past a record decides it. Assumes nothing.
use Prim.Native.Nat.{ℕ, zero, suc, ◌+◌, ◌-◌, ◌^◌, ◌<◌, ◌≤◌}
use mathlib.Core.Path.{◌≡◌, refl, ap, ap₂, sym, ◌∙◌}
use mathlib.Core.Bool.{Bool, true, false}
use mathlib.Core.List.{List, [], ◌∷◌, ◌++◌}
use native.Mathlib.Omega.{arith}
use lib.Dec.{leb, eqb}
use borrow.Author.Tests.{le-leb, leb-true, eqb-true}
use lib.ListN.{length, get_or, take, drop, length-drop}
use lib.Seq.{take-add, get_or-drop, get_or-take, take-nil, length-take-le}
use Rattle.terms.proofs.Tests.{by_test}
use Rattle.workfile.specs.Numbers.{little_endian, bytes, Bytes}
use Rattle.workfile.specs.Content.{error_kind, bytes_of}
use Rattle.workfile.specs.Decode.{size, record_of}
use Rattle.workfile.specs.Rules.{Rule}
use Rattle.workfile.specs.declared.Tally.{Tally}
use Rattle.workfile.specs.declared.FileRecord.{FileRecord}
use Rattle.workfile.specs.declared.FileRecord.TheVariants.{Word, Value, ErrorOf, End, Nothing}
use Rattle.workfile.proofs.Numbers.{number_again, bytes_again, number_below, number_of_front}

-- the numbers of a record fit their bytes
abbrev pub Good : FileRecord → Type 0
Good (Word w) = w < 256 ^ 8
Good (Value v) = v < 256 ^ 8
Good (ErrorOf u l n) = (l < 256 ^ 4) × (n < 256 ^ 8)
Good (End n s) = (n < 256 ^ 4) × (s < 256 ^ 8)
Good Nothing = ⊥

pub record_again : (r : FileRecord) (rest : List ℕ) → Good r → record_of (bytes_of r ++ rest) ≡ r
unfolding record_of
record_again (Word w) rest h = rw (le-leb 9 (length (bytes_of (Word w) ++ rest)) (omega arith)) (ap Word (number_again 8 w rest h))
record_again (Value v) rest h = rw (le-leb 9 (length (bytes_of (Value v) ++ rest)) (omega arith)) (ap Value (number_again 8 v rest h))
record_again (ErrorOf false l n) rest h =
    rw (le-leb 13 (length (bytes_of (ErrorOf false l n) ++ rest)) (omega arith)) (cc (number_again 4 l (bytes 8 n ++ rest) h.0, number_again 8 n rest h.1))
record_again (ErrorOf true l n) rest h =
    rw (le-leb 13 (length (bytes_of (ErrorOf true l n) ++ rest)) (omega arith)) (cc (number_again 4 l (bytes 8 n ++ rest) h.0, number_again 8 n rest h.1))
record_again (End n s) rest h =
    rw (le-leb 13 (length (bytes_of (End n s) ++ rest)) (omega arith)) (cc (number_again 4 n (bytes 8 s ++ rest) h.0, number_again 8 s rest h.1))
record_again Nothing rest h = absurd h

pub skip : (r : FileRecord) (rest : List ℕ) → drop (size r) (bytes_of r ++ rest) ≡ rest
skip (Word w) rest = refl
skip (Value v) rest = refl
skip (ErrorOf u l n) rest = refl
skip (End n s) rest = refl
skip Nothing rest = refl

pub length_record : (r : FileRecord) → length (bytes_of r) ≡ size r
length_record (Word w) = refl
length_record (Value v) = refl
length_record (ErrorOf u l n) = refl
length_record (End n s) = refl
length_record Nothing = refl

-- a kind and one number of 8 bytes; a kind and two numbers, of 4 and of 8
one_number : (k x : ℕ) (bs : List ℕ) → Bytes (x ∷ bs) → eqb x k ≡ true → leb 9 (suc (length bs)) ≡ true → k ∷ bytes 8 (little_endian 8 bs) ≡ x ∷ take 8 bs
one_number k x bs b e h =
    let l : 9 ≤ suc (length bs) = leb-true 9 (suc (length bs)) h in
    rw (eqb-true x k e, bytes_again 8 bs (λ i. b (suc i)) (omega arith))

two_numbers : (k x : ℕ) (bs : List ℕ) → Bytes (x ∷ bs) → eqb x k ≡ true → leb 13 (suc (length bs)) ≡ true
    → k ∷ (bytes 4 (little_endian 4 bs) ++ bytes 8 (little_endian 8 (drop 4 bs))) ≡ x ∷ take 12 bs
two_numbers k x bs b e h =
    let l : 13 ≤ suc (length bs) = leb-true 13 (suc (length bs)) h in
    let low : bytes 4 (little_endian 4 bs) ≡ take 4 bs = bytes_again 4 bs (λ i. b (suc i)) (omega arith) in
    let high : bytes 8 (little_endian 8 (drop 4 bs)) ≡ take 8 (drop 4 bs) =
    bytes_again 8 (drop 4 bs) (λ i. rw get_or-drop (b (suc (4 + i)))) (rw length-drop (omega arith)) in
    ap₂ ◌∷◌ (sym (eqb-true x k e)) (ap₂ ◌++◌ low high ∙ sym (take-add 4 8 bs))

-- what holds of the record at the front of some bytes, by its kind
by_kind : (P : FileRecord → Type 0) (bs : List ℕ)
    → (eqb (get_or bs 0 0) 0x57 ≡ true → leb 9 (length bs) ≡ true → P (Word (little_endian 8 (drop 1 bs))))
    → (eqb (get_or bs 0 0) 0x4C ≡ true → leb 9 (length bs) ≡ true → P (Value (little_endian 8 (drop 1 bs))))
    → ((u : Bool) → eqb (get_or bs 0 0) (error_kind u) ≡ true → leb 13 (length bs) ≡ true → P (ErrorOf u (little_endian 4 (drop 1 bs)) (little_endian 8 (drop 5 bs))))
    → (eqb (get_or bs 0 0) 0x5A ≡ true → leb 13 (length bs) ≡ true → P (End (little_endian 4 (drop 1 bs)) (little_endian 8 (drop 5 bs))))
    → P Nothing → P (record_of bs)
unfolding record_of
by_kind P bs w v e z n =
    by_test P (eqb (get_or bs 0 0) 0x57) (λ k. by_test P (leb 9 (length bs)) (w k) (λ _. n))
    (λ _. by_test P (eqb (get_or bs 0 0) 0x4C) (λ k. by_test P (leb 9 (length bs)) (v k) (λ _. n))
    (λ _. by_test P (eqb (get_or bs 0 0) 0x45) (λ k. by_test P (leb 13 (length bs)) (e false k) (λ _. n))
    (λ _. by_test P (eqb (get_or bs 0 0) 0x55) (λ k. by_test P (leb 13 (length bs)) (e true k) (λ _. n))
    (λ _. by_test P (eqb (get_or bs 0 0) 0x5A) (λ k. by_test P (leb 13 (length bs)) (z k) (λ _. n)) (λ _. n)))))

pub its_bytes : (bs : List ℕ) → Bytes bs → bytes_of (record_of bs) ≡ take (size (record_of bs)) bs
unfolding record_of
its_bytes [] b = refl
its_bytes (x ∷ bs) b =
    by_kind (λ r. bytes_of r ≡ take (size r) (x ∷ bs)) (x ∷ bs) (λ k h. one_number 0x57 x bs b k h) (λ k h. one_number 0x4C x bs b k h)
    (λ u k h. two_numbers (error_kind u) x bs b k h) (λ k h. two_numbers 0x5A x bs b k h) refl

pub whole_size : (bs : List ℕ) → size (record_of bs) ≤ length bs
whole_size bs =
    by_kind (λ r. size r ≤ length bs) bs (λ k h. leb-true 9 (length bs) h) (λ k h. leb-true 9 (length bs) h) (λ u k h. leb-true 13 (length bs) h)
    (λ k h. leb-true 13 (length bs) h) (omega arith)

-- the numbers of a record that the rules allow fit their bytes
pub good_record : (t : Tally) (bs : List ℕ) → Bytes bs → Rule t (record_of bs) → Good (record_of bs)
good_record t bs b =
    by_kind (λ r. Rule t r → Good r) bs (λ _ _ _. low) (λ _ _ _. low) (λ _ _ _ _. (short, high)) (λ _ _ _. (short, high)) (λ h. absurd h)
  where
    low : little_endian 8 (drop 1 bs) < 256 ^ 8
    low = number_below 8 (drop 1 bs) (λ i. rw get_or-drop (b (1 + i)))

    short : little_endian 4 (drop 1 bs) < 256 ^ 4
    short = number_below 4 (drop 1 bs) (λ i. rw get_or-drop (b (1 + i)))

    high : little_endian 8 (drop 5 bs) < 256 ^ 8
    high = number_below 8 (drop 5 bs) (λ i. rw get_or-drop (b (5 + i)))

pub drop_take : (j m : ℕ) (l : List ℕ) → drop j (take m l) ≡ take (m - j) (drop j l)
drop_take zero m l = let z : m ≡ m - 0 = omega arith in ap (λ (n : ℕ). take n l) z
drop_take (suc j) zero l = let z : 0 ≡ 0 - suc j = omega arith in ap (λ (n : ℕ). take n (drop (suc j) l)) z
drop_take (suc j) (suc m) [] = sym (take-nil (suc m - suc j))
drop_take (suc j) (suc m) (x ∷ l) = let z : m - j ≡ suc m - suc j = omega arith in drop_take j m l ∙ ap (λ (n : ℕ). take n (drop j l)) z

-- 13 bytes decide a record, where more follow
pub cut_record : (m : ℕ) (bs : List ℕ) → 13 ≤ m → m < length bs → record_of (take m bs) ≡ record_of bs
unfolding record_of
cut_record m bs h l =
    let long = length-take-le m bs (omega arith) in
    let low : little_endian 8 (drop 1 (take m bs)) ≡ little_endian 8 (drop 1 bs) =
    ap (little_endian 8) (drop_take 1 m bs) ∙ number_of_front 8 (m - 1) (drop 1 bs) (omega arith) in
    let short : little_endian 4 (drop 1 (take m bs)) ≡ little_endian 4 (drop 1 bs) =
    ap (little_endian 4) (drop_take 1 m bs) ∙ number_of_front 4 (m - 1) (drop 1 bs) (omega arith) in
    let high : little_endian 8 (drop 5 (take m bs)) ≡ little_endian 8 (drop 5 bs) =
    ap (little_endian 8) (drop_take 5 m bs) ∙ number_of_front 8 (m - 5) (drop 5 bs) (omega arith) in
    let kind : get_or (take m bs) 0 0 ≡ get_or bs 0 0 = get_or-take m bs 0 0 (omega arith) in
    rw (kind, long, low, short, high, le-leb 9 m (omega arith), le-leb 13 m h, le-leb 9 (length bs) (omega arith), le-leb 13 (length bs) (omega arith))
