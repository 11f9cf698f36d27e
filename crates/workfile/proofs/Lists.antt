-- The lists of records of a content that grows, and their lengths. Assumes nothing.
use Prim.Native.Nat.{ℕ, zero, suc, ◌+◌, ◌-◌, ◌*◌, ◌<◌, ◌≤◌}
use mathlib.Core.Path.{◌≡◌, refl, ap, ap₂, sym, ◌∙◌}
use mathlib.Core.Bool.{Bool}
use mathlib.Core.List.{List, [], ◌∷◌, ◌++◌, map, append-nil, append_assoc}
use native.Mathlib.Omega.{arith}
use lib.ListN.{length, get_or, drop, set, replicate, length-append, length-drop, length-replicate, replicate-append-replicate}
use lib.Seq.{drop-cons, set-append_seam}
use lib.IntN.{ℤ, pos}
use Rattle.signed.specs.Errors.{size_of, is_under, signed_of}
use Rattle.signed.proofs.Laws.{same_size, same_kind}
use Rattle.workfile.specs.Content.{bytes_of, bytes_of_all, error_record, error_records}
use Rattle.workfile.specs.Decode.{pad_to}
use Rattle.workfile.specs.Promises.{over}
use Rattle.workfile.specs.declared.FileRecord.{FileRecord}
use Rattle.workfile.specs.declared.FileRecord.TheVariants.{Word, Value, ErrorOf}

pub nil_of_length : {A : Type 0} (l : List A) → length l ≡ 0 → l ≡ []
nil_of_length [] h = refl
nil_of_length (x ∷ l) h = absurd (omega arith)

pub bytes_append : (rs qs : List FileRecord) → bytes_of_all (rs ++ qs) ≡ bytes_of_all rs ++ bytes_of_all qs
bytes_append [] qs = refl
bytes_append (r ∷ rs) qs = ap (λ (l : List ℕ). bytes_of r ++ l) (bytes_append rs qs) ∙ sym (append_assoc (bytes_of r) (bytes_of_all rs) (bytes_of_all qs))

-- the record of an error other than 0, of either kind
pub some_record : (i : ℕ) (u : Bool) (n : ℕ) → 0 < n → error_record i u n ≡ ErrorOf u i n ∷ []
some_record i u zero h = absurd (omega arith)
some_record i u (suc n) h = refl

pub errors_append : (i : ℕ) (xs ys : List ℤ) → error_records i (xs ++ ys) ≡ error_records i xs ++ error_records (i + length xs) ys
errors_append i [] ys = ap (λ (n : ℕ). error_records n ys) (omega arith)
errors_append i (e ∷ xs) ys =
    let first = error_record i (is_under e) (size_of e) in
    ap (λ (l : List FileRecord). first ++ l) (errors_append (suc i) xs ys ∙ ap (λ (n : ℕ). error_records (suc i) xs ++ error_records n ys) (omega arith))
    ∙ sym (append_assoc first (error_records (suc i) xs) (error_records (i + suc (length xs)) ys))

errors_zeros : (i k : ℕ) → error_records i (replicate k (pos 0)) ≡ []
unfolding size_of
errors_zeros i zero = refl
errors_zeros i (suc k) = errors_zeros (suc i) k

pub length_pad : (n : ℕ) (es : List ℤ) → length es ≤ n → length (pad_to n es) ≡ n
length_pad n es h = simp (length-append, length-replicate) (omega arith)

pub errors_pad : (n : ℕ) (es : List ℤ) → error_records 0 (pad_to n es) ≡ error_records 0 es
errors_pad n es = errors_append 0 es (replicate (n - length es) (pos 0)) ∙ rw errors_zeros (append-nil (error_records 0 es))

-- the record of an error that a size and a kind make
made_record : (i : ℕ) (u : Bool) (n : ℕ) → 0 < n → error_records i (signed_of n u ∷ []) ≡ ErrorOf u i n ∷ []
made_record i u n h =
    append-nil (error_record i (is_under (signed_of n u)) (size_of (signed_of n u)))
    ∙ ap₂ (error_record i) (same_kind n u h) (same_size n u) ∙ some_record i u n h

pub errors_more : (u : Bool) (l n : ℕ) (es : List ℤ) → length es ≤ l → 0 < n → error_records 0 (pad_to l es ++ (signed_of n u ∷ [])) ≡ error_records 0 es ++ (ErrorOf u l n ∷ [])
errors_more u l n es h p =
    let len : 0 + length (pad_to l es) ≡ l = omega (arith, length_pad l es h) in
    errors_append 0 (pad_to l es) (signed_of n u ∷ [])
    ∙ ap₂ ◌++◌ (errors_pad l es) (made_record (0 + length (pad_to l es)) u n p ∙ ap (λ (i : ℕ). ErrorOf u i n ∷ []) len)

pub pad_full : (n : ℕ) (es : List ℤ) → length es ≡ n → pad_to n es ≡ es
pad_full n es h =
    let z : n - length es ≡ 0 = omega arith in
    ap (λ (m : ℕ). es ++ replicate m (pos 0)) z ∙ append-nil es

pub pad_skip : (i : ℕ) (xs es : List ℤ) → length xs ≤ i → pad_to (suc i) xs ++ es ≡ pad_to i xs ++ (pos 0 ∷ es)
pad_skip i xs es h =
    let m = i - length xs in
    let z : suc i - length xs ≡ m + 1 = omega arith in
    ap (λ (n : ℕ). xs ++ replicate n (pos 0) ++ es) z
    ∙ ap (λ (l : List ℤ). xs ++ l ++ es) (sym (replicate-append-replicate m 1 (pos 0)))
    ∙ simp append_assoc

pub pad_take : (i : ℕ) (e : ℤ) (xs es : List ℤ) → length xs ≤ i → pad_to (suc i) (pad_to i xs ++ (e ∷ [])) ++ es ≡ pad_to i xs ++ (e ∷ es)
pad_take i e xs es h =
    let l : length (pad_to i xs ++ (e ∷ [])) ≡ suc i = length-append (pad_to i xs) (e ∷ []) ∙ omega (arith, length_pad i xs h) in
    ap (λ (t : List ℤ). t ++ es) (pad_full (suc i) (pad_to i xs ++ (e ∷ [])) l) ∙ append_assoc (pad_to i xs) (e ∷ []) es

-- lengths
pub length_words : (ws : List ℕ) → length (bytes_of_all (map Word ws)) ≡ 9 * length ws
length_words [] = refl
length_words (w ∷ ws) = omega (arith, length_words ws)

pub length_values : (vs : List ℕ) → length (bytes_of_all (map Value vs)) ≡ 9 * length vs
length_values [] = refl
length_values (v ∷ vs) = omega (arith, length_values vs)

length_error : (i : ℕ) (u : Bool) (n : ℕ) → length (bytes_of_all (error_record i u n)) ≡ 13 * length (error_record i u n)
length_error i u zero = refl
length_error i u (suc n) = refl

few_error : (i : ℕ) (u : Bool) (n : ℕ) → length (error_record i u n) ≤ 1
few_error i u zero = omega arith
few_error i u (suc n) = omega arith

pub length_errors : (i : ℕ) (es : List ℤ) → length (bytes_of_all (error_records i es)) ≡ 13 * length (error_records i es)
length_errors i [] = refl
length_errors i (e ∷ es) =
    let first = error_record i (is_under e) (size_of e) in
    let rest = error_records (suc i) es in
    ap length (bytes_append first rest)
    ∙ omega (
      arith,
      length-append (bytes_of_all first) (bytes_of_all rest),
      length-append first rest,
      length_error i (is_under e) (size_of e),
      length_errors (suc i) es,
    )

pub few_errors : (i : ℕ) (es : List ℤ) → length (error_records i es) ≤ length es
few_errors i [] = omega arith
few_errors i (e ∷ es) =
    omega (
      arith,
      length-append (error_record i (is_under e) (size_of e)) (error_records (suc i) es),
      few_error i (is_under e) (size_of e),
      few_errors (suc i) es,
    )

-- entries laid over a buffer, and one more
pub length_over : {A : Type 0} (xs old : List A) → length xs ≤ length old → length (over xs old) ≡ length old
length_over xs old h = length-append xs (drop (length xs) old) ∙ omega (arith, length-drop (length xs) old)

pub over_more : {A : Type 0} (xs old : List A) (x : A) → length xs < length old → set (over xs old) (length xs) x ≡ over (xs ++ (x ∷ [])) old
over_more xs old x h =
    let n : length (xs ++ (x ∷ [])) ≡ suc (length xs) = length-append xs (x ∷ []) ∙ omega arith in
    ap (λ l. set (xs ++ l) (length xs) x) (drop-cons old (length xs) x h)
    ∙ set-append_seam xs (get_or old (length xs) x) (drop (suc (length xs)) old) x
    ∙ sym (ap (λ (k : ℕ). xs ++ (x ∷ []) ++ drop k old) n ∙ append_assoc xs (x ∷ []) (drop (suc (length xs)) old))
