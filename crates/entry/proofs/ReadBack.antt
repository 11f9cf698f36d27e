-- A number that the pen writes in decimal is read as that number, and a line of a kind and such numbers as its record. Assumes nothing.
use mathlib.Core.Path.{◌≡◌, refl, sym, ap, ◌∙◌}
use mathlib.Core.Bool.{Bool, true, false}
use mathlib.Core.Logic.{⊎_elim}
use mathlib.Core.List.{List, [], ◌∷◌, ◌++◌, append_assoc, append-nil}
use Prim.Native.Nat.{ℕ, zero, suc, ◌+◌, ◌*◌, ◌-◌, ◌/◌, ◌%◌, ◌^◌, ◌≤◌, ◌<◌}
use native.Mathlib.Omega.{arith}
use borrow.Author.Tests.{le-ltb, lt-ltb, ne_eqb}
use lib.ListN.{length, length-append}
use Rattle.pen.specs.Text.{digit, decimal}
use Rattle.pen.proofs.Decimals.{decimal_small, decimal_more}
use Rattle.terms.proofs.Tests.{le_or_lt}
use Rattle.workfile.specs.Content.{error_kind}
use Rattle.workfile.specs.declared.FileRecord.TheVariants.{Word, Value, ErrorOf}
use Rattle.entry.specs.Text.{blank, opens, onto, fields_of}
use Rattle.entry.specs.Records.{number_from, number_of, numbers_from, is_own, is_kind, count_of, made_of, with_numbers, record_with, record_by, record_in}
use Rattle.entry.specs.declared.Notation.{Notation}
use Rattle.entry.specs.declared.Notation.TheVariants.{Desk, Programmes}
use Rattle.entry.specs.declared.Wrong.TheVariants.{UnknownKind, FieldTooMany}
use Rattle.std.specs.Prelude.{Ok}
use Rattle.entry.specs.declared.Record.TheVariants.{Plan, Stratum, Filed, Unreadable}
use Rattle.entry.proofs.Cuts.{fields_blank, fields_on, fields_off, opens_at}

-- one digit more
digit_read : (value d n : ℕ) (rest : List ℕ) → d < 10 → 10 * value + d ≡ n → n < 2 ^ 64 → number_from value (digit d ∷ rest) ≡ number_from n rest
unfolding number_from
digit_read value d n rest small e fits =
    let low : 48 ≤ digit d = omega arith in
    let high : digit d ≤ 57 = omega arith in
    let grown : 10 * value + (digit d - 48) ≡ n = omega arith in
    let within : 10 * value + (digit d - 48) < 2 ^ 64 = omega arith in
    simp (le-ltb _ _ low, le-ltb _ _ high, lt-ltb _ _ within) (ap (λ (m : ℕ). number_from m rest) grown)

module _ (n : ℕ) (fits : n < 2 ^ 64) (rest : List ℕ) where
  few_digits : n < 10 → number_from 0 (decimal n ++ rest) ≡ number_from n rest
  few_digits h = ap (λ (l : List ℕ). number_from 0 (l ++ rest)) (decimal_small n h) ∙ digit_read 0 n n rest h (omega arith) fits

  more_digits : 10 ≤ n → ((l : List ℕ) → number_from 0 (decimal (n / 10) ++ l) ≡ number_from (n / 10) l) → number_from 0 (decimal n ++ rest) ≡ number_from n rest
  more_digits h front =
      ap (λ (l : List ℕ). number_from 0 (l ++ rest)) (decimal_more n h)
      ∙ ap (number_from 0) (append_assoc (decimal (n / 10)) (digit (n % 10) ∷ []) rest)
      ∙ front (digit (n % 10) ∷ rest) ∙ digit_read (n / 10) (n % 10) n rest (omega arith) (omega arith) fits

-- the digits of n, and then others; the first argument only bounds the recursion
digits_read : (k n : ℕ) → n ≤ k → n < 2 ^ 64 → (rest : List ℕ) → number_from 0 (decimal n ++ rest) ≡ number_from n rest
digits_read zero n h fits rest = few_digits n fits rest (omega arith)
digits_read (suc k) n h fits rest =
    ⊎_elim (λ l. more_digits n fits rest l (digits_read k (n / 10) (omega arith) (omega arith))) (λ l. few_digits n fits rest l) (le_or_lt 10 n)

pub number_read_back : (n : ℕ) → n < 2 ^ 64 → number_of (decimal n) ≡ Ok n
unfolding number_of number_from
number_read_back n fits = ap (number_from 0) (sym (append-nil (decimal n))) ∙ digits_read n n (omega arith) fits []

-- bytes of a field: none is a blank
abbrev Solid : List ℕ → Type 0
Solid [] = Unit
Solid (b ∷ l) = (blank b ≡ false) × Solid l

solid_append : (l m : List ℕ) → Solid l → Solid m → Solid (l ++ m)
solid_append [] m p q = q
solid_append (b ∷ l) m p q = (p.0, solid_append l m p.1 q)

solid_digit : (d : ℕ) → Solid (digit d ∷ [])
unfolding blank
solid_digit d =
    let space : digit d ≡ 32 → ⊥ = λ e. omega arith in
    let tab : digit d ≡ 9 → ⊥ = λ e. omega arith in
    let return : digit d ≡ 13 → ⊥ = λ e. omega arith in
    (simp (ne_eqb _ _ space, ne_eqb _ _ tab, ne_eqb _ _ return), tt)

-- a number's digits are a field
abbrev IsField : List ℕ → Type 0
IsField l = (0 < length l) × Solid l

few_field : (n : ℕ) → n < 10 → IsField (decimal n)
few_field n h = rw (decimal_small n h) (omega arith, solid_digit n)

more_field : (n : ℕ) → 10 ≤ n → IsField (decimal (n / 10)) → IsField (decimal n)
more_field n h f =
    rw (decimal_more n h)
    (omega (arith, length-append (decimal (n / 10)) (digit (n % 10) ∷ [])), solid_append (decimal (n / 10)) (digit (n % 10) ∷ []) f.1 (solid_digit (n % 10)))

decimal_field : (k n : ℕ) → n ≤ k → IsField (decimal n)
decimal_field zero n h = few_field n (omega arith)
decimal_field (suc k) n h = ⊎_elim (λ l. more_field n l (decimal_field k (n / 10) (omega arith))) (λ l. few_field n l) (le_or_lt 10 n)

a_field : (n : ℕ) → IsField (decimal n)
a_field n = decimal_field n n (omega arith)

-- a field before a space, and a field at the end of a line
field_first : (f rest : List ℕ) → IsField f → fields_of (f ++ (32 ∷ rest)) ≡ f ∷ fields_of rest
unfolding opens blank
field_first [] rest p = absurd (omega (arith, p.0))
field_first (b ∷ []) rest p = fields_off b (32 ∷ rest) p.1.0 refl ∙ ap (λ (l : List (List ℕ)). (b ∷ []) ∷ l) (fields_blank 32 rest refl)
field_first (b ∷ x ∷ l) rest p =
    fields_on b (x ∷ (l ++ (32 ∷ rest))) p.1.0 (opens_at x (l ++ (32 ∷ rest)) p.1.1.0) ∙ ap (onto b) (field_first (x ∷ l) rest (omega arith, p.1.1))

field_last : (f : List ℕ) → IsField f → fields_of f ≡ f ∷ []
unfolding opens fields_of
field_last [] p = absurd (omega (arith, p.0))
field_last (b ∷ []) p = fields_off b [] p.1.0 refl
field_last (b ∷ x ∷ l) p = fields_on b (x ∷ l) p.1.0 (opens_at x l p.1.1.0) ∙ ap (onto b) (field_last (x ∷ l) (omega arith, p.1.1))

-- a line of a kind and its numbers, each after a space
one_field : (n : ℕ) → fields_of (decimal n) ≡ decimal n ∷ []
one_field n = field_last (decimal n) (a_field n)

two_fields : (m n : ℕ) → fields_of (decimal m ++ (32 ∷ decimal n)) ≡ decimal m ∷ decimal n ∷ []
two_fields m n = field_first (decimal m) (decimal n) (a_field m) ∙ ap (λ (l : List (List ℕ)). decimal m ∷ l) (one_field n)

three_fields : (k m n : ℕ) → fields_of (decimal k ++ (32 ∷ (decimal m ++ (32 ∷ decimal n)))) ≡ decimal k ∷ decimal m ∷ decimal n ∷ []
three_fields k m n = field_first (decimal k) (decimal m ++ (32 ∷ decimal n)) (a_field k) ∙ ap (λ (l : List (List ℕ)). decimal k ∷ l) (two_fields m n)

pub word_read_back : (by : Notation) (word : ℕ) → word < 2 ^ 64 → record_in by (0x57 ∷ 32 ∷ decimal word) ≡ Filed (Word word)
unfolding record_in record_by record_with is_kind count_of made_of with_numbers numbers_from blank
word_read_back by word h =
    ap (record_by by) (field_first (0x57 ∷ []) (decimal word) (omega arith, (refl, tt)) ∙ ap (λ (l : List (List ℕ)). (0x57 ∷ []) ∷ l) (one_field word))
    ∙ simp (number_read_back word h)

pub value_read_back : (by : Notation) (value : ℕ) → value < 2 ^ 64 → record_in by (0x4C ∷ 32 ∷ decimal value) ≡ Filed (Value value)
unfolding record_in record_by record_with is_kind count_of made_of with_numbers numbers_from blank
value_read_back by value h =
    ap (record_by by) (field_first (0x4C ∷ []) (decimal value) (omega arith, (refl, tt)) ∙ ap (λ (l : List (List ℕ)). (0x4C ∷ []) ∷ l) (one_field value))
    ∙ simp (number_read_back value h)

error_fields : (kind line size : ℕ) → blank kind ≡ false → fields_of (kind ∷ 32 ∷ (decimal line ++ (32 ∷ decimal size))) ≡ (kind ∷ []) ∷ decimal line ∷ decimal size ∷ []
error_fields kind line size solid =
    field_first (kind ∷ []) (decimal line ++ (32 ∷ decimal size)) (omega arith, (solid, tt)) ∙ ap (λ (l : List (List ℕ)). (kind ∷ []) ∷ l) (two_fields line size)

-- E and U
pub error_read_back : (by : Notation) (u : Bool) (line size : ℕ) → line < 2 ^ 64 → size < 2 ^ 64 → record_in by (error_kind u ∷ 32 ∷ (decimal line ++ (32 ∷ decimal size))) ≡ Filed (ErrorOf u line size)
unfolding record_in record_by record_with is_kind count_of made_of with_numbers numbers_from blank
error_read_back by false line size h g = ap (record_by by) (error_fields 0x45 line size refl) ∙ simp (number_read_back line h, number_read_back size g)
error_read_back by true line size h g = ap (record_by by) (error_fields 0x55 line size refl) ∙ simp (number_read_back line h, number_read_back size g)

pub plan_read_back : (level te ae : ℕ) → level < 2 ^ 64 → te < 2 ^ 64 → ae < 2 ^ 64
    → record_in Desk (0x50 ∷ 32 ∷ (decimal level ++ (32 ∷ (decimal te ++ (32 ∷ decimal ae))))) ≡ Plan level te ae
unfolding record_in record_by record_with is_own is_kind count_of made_of with_numbers numbers_from blank
plan_read_back level te ae h g k =
    ap (record_by Desk) (field_first (0x50 ∷ []) (decimal level ++ (32 ∷ (decimal te ++ (32 ∷ decimal ae)))) (omega arith, (refl, tt)) ∙ ap (λ (l : List (List ℕ)). (0x50 ∷ []) ∷ l) (three_fields level te ae))
    ∙ simp (number_read_back level h, number_read_back te g, number_read_back ae k)

pub draws_read_back : (draws : ℕ) → draws < 2 ^ 64 → record_in Programmes (0x4E ∷ 32 ∷ decimal draws) ≡ Plan 0 0 draws
unfolding record_in record_by record_with is_own is_kind count_of made_of with_numbers numbers_from blank
draws_read_back draws h =
    ap (record_by Programmes) (field_first (0x4E ∷ []) (decimal draws) (omega arith, (refl, tt)) ∙ ap (λ (l : List (List ℕ)). (0x4E ∷ []) ∷ l) (one_field draws))
    ∙ simp (number_read_back draws h)

-- a line of the fields S alone, and of S and others; P, N and S in the other notation
module _ (field : List ℕ) (fields : List (List ℕ)) where
  pub strata_kinds : (record_by Programmes ((0x53 ∷ []) ∷ []) ≡ Stratum) × (record_by Programmes ((0x53 ∷ []) ∷ field ∷ fields) ≡ Unreadable FieldTooMany)
      × (record_by Programmes ((0x50 ∷ []) ∷ fields) ≡ Unreadable UnknownKind) × (record_by Desk ((0x4E ∷ []) ∷ fields) ≡ Unreadable UnknownKind)
      × (record_by Desk ((0x53 ∷ []) ∷ fields) ≡ Unreadable UnknownKind)
  unfolding record_by record_with is_own is_kind count_of made_of with_numbers numbers_from
  strata_kinds = (refl, refl, refl, refl, refl)
