-- The record of a line, field by field as the code reads it. Assumes nothing.
use mathlib.Core.Path.{◌≡◌, sym, ap, ◌∙◌}
use mathlib.Core.Bool.{Bool, true, false, not}
use mathlib.Core.List.{List, ◌∷◌}
use Prim.Native.Nat.{ℕ, zero, suc, ◌+◌, ◌-◌, ◌≤◌, ◌<◌}
use native.Mathlib.Omega.{arith}
use lib.ListN.{length, get_or, take, drop}
use borrow.Author.Tests.{eq-eqb, ne_eqb}
use Rattle.std.specs.Prelude.{Result, Ok, Err}
use Rattle.terms.specs.Numbers.{pick}
use Rattle.entry.specs.Records.{number_of, with_number, next, ended, one_more, no_numbers, numbers_from, is_kind, count_of, made_of, with_numbers, record_with, record_by, record_in}
use Rattle.entry.specs.Steps.{Reached, fields_at, next_says, NextNumber}
use Rattle.entry.specs.declared.Notation.{Notation}
use Rattle.entry.specs.declared.Wrong.{Wrong}
use Rattle.entry.specs.declared.Wrong.TheVariants.{UnknownKind, NumberMissing, FieldTooMany}
use Rattle.entry.specs.declared.Run.TheVariants.{Blanks, Field}
use Rattle.entry.specs.declared.Numbers.{Numbers}
use Rattle.entry.specs.declared.Record.{Record}
use Rattle.entry.specs.declared.Record.TheVariants.{Nothing, Unreadable}
use Rattle.entry.proofs.Runs.{turned, unturned}
use Rattle.entry.proofs.Cuts.{no_field, some_field_left, first_field, field_length, field_byte}

-- the next number
module _ {line : List ℕ} {at from : ℕ} (blanks : Reached Blanks line at from) where
  pub number_missing : from ≡ length line → NextNumber line at (Err NumberMissing)
  number_missing e = record { within = omega arith; same = λ more. ap (λ (fields : List (List ℕ)). next fields more) (no_field blanks e) }

  module _ (inside : from ≡ length line → ⊥) {to : ℕ} (field : Reached Field line from to) {n : Result ℕ Wrong} (read : n ≡ number_of (take (to - from) (drop from line))) where
    same_next : (more : ℕ → List (List ℕ) → Result Numbers Wrong) → next (fields_at line at) more ≡ with_number n (λ value. more value (fields_at line to))
    same_next more =
        ap (λ (fields : List (List ℕ)). next fields more) (first_field blanks (omega (arith, inside, blanks.within)) field)
        ∙ ap (λ (m : Result ℕ Wrong). with_number m (λ value. more value (fields_at line to))) (sym read)

  module _ (inside : from ≡ length line → ⊥) {to : ℕ} (field : Reached Field line from to) where
    pub number_wrong : {wrong : Wrong} → Err wrong ≡ number_of (take (to - from) (drop from line)) → NextNumber line at (Err wrong)
    number_wrong read = record { within = omega arith; same = same_next inside field read }

    pub number_read : {value : ℕ} → Ok value ≡ number_of (take (to - from) (drop from line)) → NextNumber line at (Ok (value, to))
    number_read read = record { within = field.within; same = same_next inside field read }

-- the end of a line
module _ {line : List ℕ} {at from : ℕ} (blanks : Reached Blanks line at from) (numbers : Numbers) where
  pub line_ended : from ≡ length line → Ok numbers ≡ ended (fields_at line at) numbers
  line_ended e = sym (ap (λ (fields : List (List ℕ)). ended fields numbers) (no_field blanks e))

  pub line_not_ended : (from ≡ length line → ⊥) → Err FieldTooMany ≡ ended (fields_at line at) numbers
  line_not_ended h = sym (ap (λ (fields : List (List ℕ)). ended fields numbers) (some_field_left blanks (omega (arith, blanks.within, h))))

-- the loop over a line's numbers: after `read` of them the others are to come from `at` on, and going on gives what the whole line does
pub record ToCome (line : List ℕ) (from count at read : ℕ) (numbers : Numbers) : Type 0 where
  pub within : at ≤ length line
  pub same : numbers_from (count - read) numbers (fields_at line at) ≡ numbers_from count no_numbers (fields_at line from)

pub none_read : {line : List ℕ} {from : ℕ} (count : ℕ) → from ≤ length line → ToCome line from count from 0 no_numbers
none_read {line} {from} count h =
    let all : count - 0 ≡ count = omega arith in record { within = h; same = ap (λ (n : ℕ). numbers_from n no_numbers (fields_at line from)) all }

-- the next number, where one is still to come
number_next : (left : ℕ) (numbers : Numbers) (fields : List (List ℕ)) → 0 < left
    → numbers_from left numbers fields ≡ next fields (λ value after. numbers_from (left - 1) (one_more numbers value) after)
unfolding numbers_from
number_next zero numbers fields h = absurd (omega arith)
number_next (suc left) numbers fields h =
    let one : left ≡ suc left - 1 = omega arith in
    ap (λ (n : ℕ). next fields (λ value after. numbers_from n (one_more numbers value) after)) one

module _ {line : List ℕ} {from count at read : ℕ} {numbers : Numbers} (so : ToCome line from count at read numbers) where
  module _ (more : read < count) {r : Result (ℕ × ℕ) Wrong} (found : NextNumber line at r) where
    goes : numbers_from count no_numbers (fields_at line from) ≡ next_says line r (λ value after. numbers_from (count - (read + 1)) (one_more numbers value) after)
    goes =
        let one : count - read - 1 ≡ count - (read + 1) = omega arith in
        sym so.same ∙ number_next (count - read) numbers (fields_at line at) (omega arith) ∙ found.same (λ value after. numbers_from (count - read - 1) (one_more numbers value) after)
        ∙ ap (λ (n : ℕ). next_says line r (λ value after. numbers_from n (one_more numbers value) after)) one

  pub not_read : read < count → {wrong : Wrong} → NextNumber line at (Err wrong) → Err wrong ≡ numbers_from count no_numbers (fields_at line from)
  not_read more found = sym (goes more found)

  pub one_read : read < count → {value to : ℕ} {grown : Numbers} → NextNumber line at (Ok (value, to)) → grown ≡ one_more numbers value → ToCome line from count to (read + 1) grown
  one_read more {value} {to} found g =
      record {
        within = found.within;
        same = ap (λ (n : Numbers). numbers_from (count - (read + 1)) n (fields_at line to)) g ∙ sym (goes more found);
      }

  pub all_read : count ≤ read → {r : Result Numbers Wrong} → r ≡ ended (fields_at line at) numbers → r ≡ numbers_from count no_numbers (fields_at line from)
  unfolding numbers_from
  all_read h e =
      let none : count - read ≡ 0 = omega arith in
      e ∙ sym (ap (λ (n : ℕ). numbers_from n numbers (fields_at line at)) none) ∙ so.same

-- a record by its kind and its numbers
module _ (by : Notation) (kind : ℕ) {known : Bool} (test : known ≡ is_kind by kind) (fields : List (List ℕ)) where
  decided : (b : Bool) → known ≡ b → record_with by kind fields ≡ pick b (with_numbers kind (numbers_from (count_of kind) no_numbers fields)) (Unreadable UnknownKind)
  unfolding record_with
  decided b e = ap (λ (b : Bool). pick b (with_numbers kind (numbers_from (count_of kind) no_numbers fields)) (Unreadable UnknownKind)) (sym test ∙ e)

  pub no_kind : not known ≡ true → Unreadable UnknownKind ≡ record_with by kind fields
  no_kind e = sym (decided false (turned known e))

  module _ (some : not known ≡ false) {count : ℕ} (many : count ≡ count_of kind) {r : Result Numbers Wrong} (read : r ≡ numbers_from count no_numbers fields) where
    by_numbers : record_with by kind fields ≡ with_numbers kind r
    by_numbers = decided true (unturned known some) ∙ ap (with_numbers kind) (ap (λ (n : ℕ). numbers_from n no_numbers fields) (sym many) ∙ sym read)

    pub no_numbers_lem : {wrong : Wrong} → r ≡ Err wrong → Unreadable wrong ≡ record_with by kind fields
    unfolding with_numbers
    no_numbers_lem e = sym (by_numbers ∙ ap (with_numbers kind) e)

    pub of_numbers : {numbers : Numbers} {found : Record} → r ≡ Ok numbers → found ≡ made_of kind numbers → found ≡ record_with by kind fields
    unfolding with_numbers
    of_numbers e made = made ∙ sym (by_numbers ∙ ap (with_numbers kind) e)

-- a line by its first field
pub no_record : (by : Notation) {line : List ℕ} {from : ℕ} → Reached Blanks line 0 from → from ≡ length line → Nothing ≡ record_in by line
unfolding record_in record_by fields_at
no_record by {line} {from} blanks e = sym (ap (record_by by) (no_field blanks e))

module _ (by : Notation) {line : List ℕ} {from to : ℕ} (blanks : Reached Blanks line 0 from) (inside : from ≡ length line → ⊥) (field : Reached Field line from to) where
  room : from < length line
  room = omega (arith, inside, blanks.within)

  by_field : record_in by line ≡ record_by by (take (to - from) (drop from line) ∷ fields_at line to)
  unfolding record_in fields_at
  by_field = ap (record_by by) (first_field blanks room field)

  pub a_comment : get_or line from 0 ≡ 0x23 → Nothing ≡ record_in by line
  unfolding record_by
  a_comment e = sym (by_field ∙ rw (field_byte blanks room field) (simp (eq-eqb _ _ e)))

  module _ (no-comment : get_or line from 0 ≡ 0x23 → ⊥) where
    pub long_kind : (to - from ≡ 1 → ⊥) → Unreadable UnknownKind ≡ record_in by line
    unfolding record_by
    long_kind h = sym (by_field ∙ rw (field_byte blanks room field, field_length blanks room field) (simp (ne_eqb _ _ no-comment, ne_eqb _ _ h)))

    pub a_kind : to - from ≡ 1 → {r : Record} → r ≡ record_with by (get_or line from 0) (fields_at line to) → r ≡ record_in by line
    unfolding record_by
    a_kind short e = e ∙ sym (by_field ∙ rw (field_byte blanks room field, field_length blanks room field) (simp (ne_eqb _ _ no-comment, eq-eqb _ _ short)))
