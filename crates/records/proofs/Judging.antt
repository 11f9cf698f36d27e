-- The judgement of a record from the rules as facts, and what each judgement says of the record. Assumes nothing.
use Prim.Native.Nat.{ℕ, ◌+◌, ◌≤◌, ◌<◌}
use mathlib.Core.Path.{◌≡◌, ap, sym, ◌∙◌}
use mathlib.Core.Bool.{Bool, true, false}
use native.Mathlib.Omega.{arith}
use lib.Dec.{leb}
use borrow.Author.Tests.{le-leb, lt-ltb}
use Rattle.terms.specs.Numbers.{pick}
use Rattle.terms.proofs.Tests.{by_test}
use Rattle.signed.specs.Errors.{most_size}
use Rattle.workfile.specs.Content.{sum_bound}
use Rattle.workfile.specs.Decode.{size, is_end, fits}
use Rattle.workfile.specs.declared.Tally.{Tally}
use Rattle.workfile.specs.declared.FileRecord.{FileRecord}
use Rattle.workfile.specs.declared.FileRecord.TheVariants.{Word, Value, ErrorOf, End, Nothing}
use Rattle.workfile.proofs.Rules.{rule, fitted}
use Rattle.records.specs.Judging.{tallied, Allowed, judged}
use Rattle.records.specs.declared.Judged.TheVariants.{Next, Last, Bad}

-- the last test of an error, which the others let through: its size against its kind's
pub size_tested : (t : Tally) {r : FileRecord} {u : Bool} {l n most : ℕ} → r ≡ ErrorOf u l n → t.next_line ≤ l → l < t.lines → 0 < n → most ≡ most_size u → leb n most ≡ fits t r
unfolding fits
size_tested t known rising below some is = rw (known, le-leb _ _ rising, lt-ltb _ _ below, lt-ltb _ _ some, is)

-- the judgement, from the test
pub tested : {t : Tally} {r : FileRecord} {b : Bool} → b ≡ fits t r → b ≡ true → Allowed t r
tested {t} {r} is passed = record { rule = rule t r (sym is ∙ passed) }

pub untested : (t : Tally) (r : FileRecord) {b : Bool} → b ≡ fits t r → b ≡ false → Bad ≡ judged t r
unfolding judged
untested t r is failed = rw (sym is ∙ failed)

pub no_record : (t : Tally) (r : FileRecord) → r ≡ Nothing → Bad ≡ judged t r
unfolding judged fits
no_record t r known = rw known

-- a record that the rules allow can be counted, and is judged by its kind alone
module _ {t : Tally} {r : FileRecord} (allowed : Allowed t r) where
  pub word_below : {w : ℕ} → r ≡ Word w → t.words + 1 < sum_bound
  word_below known = omega (arith, (rw known at allowed.rule).1)

  pub line_below : {v : ℕ} → r ≡ Value v → t.lines + 1 < sum_bound
  line_below known = omega (arith, (rw known at allowed.rule).1.0)

  pub sum_below_lem : {v : ℕ} → r ≡ Value v → t.sum + v < sum_bound
  sum_below_lem known = (rw known at allowed.rule).1.1

  pub error_below : {u : Bool} {l n : ℕ} → r ≡ ErrorOf u l n → t.lines < sum_bound → l + 1 < sum_bound
  error_below known few = omega (arith, (rw known at allowed.rule).1.0)

  taken : (x : FileRecord) → r ≡ x → pick (is_end x) Last (Next (tallied t x) (size x)) ≡ judged t r
  unfolding judged
  taken x known = rw (sym known, fitted t r allowed.rule)

  pub word_taken : {w : ℕ} → r ≡ Word w → Next (tallied t (Word w)) 9 ≡ judged t r
  word_taken {w} = taken (Word w)

  pub value_taken : {v : ℕ} → r ≡ Value v → Next (tallied t (Value v)) 9 ≡ judged t r
  value_taken {v} = taken (Value v)

  pub error_taken : {u : Bool} {l n next : ℕ} → r ≡ ErrorOf u l n → next ≡ l + 1
      → Next (record { words = t.words; lines = t.lines; sum = t.sum; next_line = next }) 13 ≡ judged t r
  error_taken {u} {l} {n} known is =
      ap (λ (k : ℕ). Next (record { words = t.words; lines = t.lines; sum = t.sum; next_line = k }) 13) is ∙ taken (ErrorOf u l n) known

  pub end_taken : {n s : ℕ} → r ≡ End n s → Last ≡ judged t r
  end_taken {n} {s} = taken (End n s)

-- what each judgement says of the record
pub record Went (t : Tally) (r : FileRecord) (u : Tally) (n : ℕ) : Type 0 where
  pub fit : fits t r ≡ true
  pub not_end : is_end r ≡ false
  pub count : tallied t r ≡ u
  pub long : size r ≡ n

pub record Ended (t : Tally) (r : FileRecord) : Type 0 where
  pub fit : fits t r ≡ true
  pub is_last : is_end r ≡ true

pub clash : {A : Type 0} → ◌≡◌ {A = ℕ} 0 1 → A
clash z = absurd (omega arith)

module _ (t : Tally) (r : FileRecord) where
  pub went : (u : Tally) (n : ℕ) → judged t r ≡ Next u n → Went t r u n
  unfolding judged
  went u n =
      by_test (λ j. j ≡ Next u n → Went t r u n) (fits t r)
      (λ f. by_test (λ j. j ≡ Next u n → Went t r u n) (is_end r) (λ _ e. clash (cc)) (λ i e. record { fit = f; not_end = i; count = cc; long = cc }))
      (λ _ e. clash (cc))

  pub ended : judged t r ≡ Last → Ended t r
  unfolding judged
  ended =
      by_test (λ j. j ≡ Last → Ended t r) (fits t r)
      (λ f. by_test (λ j. j ≡ Last → Ended t r) (is_end r) (λ i e. record { fit = f; is_last = i }) (λ _ e. clash (cc))) (λ _ e. clash (cc))

  pub barred : judged t r ≡ Bad → fits t r ≡ false
  unfolding judged
  barred =
      by_test (λ j. j ≡ Bad → fits t r ≡ false) (fits t r)
      (λ _. by_test (λ j. j ≡ Bad → fits t r ≡ false) (is_end r) (λ _ e. clash (cc)) (λ _ e. clash (cc))) (λ f _. f)
