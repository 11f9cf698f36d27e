-- A number's digits as a loop over a field meets them. Assumes nothing.
use mathlib.Core.Path.{◌≡◌, refl, sym, ◌∙◌}
use mathlib.Core.List.{List}
use Prim.Native.Nat.{ℕ, ◌+◌, ◌*◌, ◌-◌, ◌/◌, ◌^◌, ◌≤◌, ◌<◌}
use native.Mathlib.Numerals.{add-one}
use native.Mathlib.Omega.{arith}
use lib.ListN.{length, get_or, drop, drop_of_length-le}
use lib.Seq.{drop-cons}
use borrow.Author.Tests.{le-ltb, lt-ltb}
use Rattle.entry.specs.Records.{number_from, number_of}
use Rattle.entry.specs.declared.Wrong.TheVariants.{NotNumber, NumberTooLarge}
use Rattle.std.specs.Prelude.{Ok, Err}

-- the digits before `at` write `value`, and going on from there gives what the whole field does
pub record Counted (field : List ℕ) (value at : ℕ) : Type 0 where
  pub within : at ≤ length field
  pub same : number_from value (drop at field) ≡ number_of field

pub none_counted : (field : List ℕ) → Counted field 0 0
unfolding number_of
none_counted field = record { within = omega arith; same = refl }

-- at a byte: the digit that it is, and the bound that the value may not pass
module _ {field : List ℕ} {value at : ℕ} (so : Counted field value at) (inside : at < length field) where
  abbrev byte : ℕ
  byte = get_or field at 0

  pub too_low : byte < 48 → Err NotNumber ≡ number_of field
  unfolding number_from
  too_low l = sym (rw (drop-cons field at 0) (simp (lt-ltb _ _ l))) ∙ so.same

  module _ (low : 48 ≤ byte) where
    pub too_high : 57 < byte → Err NotNumber ≡ number_of field
    unfolding number_from
    too_high l = sym (rw (drop-cons field at 0) (simp (le-ltb _ _ low, lt-ltb _ _ l))) ∙ so.same

    module _ (high : byte ≤ 57) where
      pub too_large : (0xFFFF_FFFF_FFFF_FFFF - (byte - 48)) / 10 < value → Err NumberTooLarge ≡ number_of field
      unfolding number_from
      too_large l =
          let passed : 2 ^ 64 ≤ 10 * value + (byte - 48) = omega arith in
          sym (rw (drop-cons field at 0) (simp (le-ltb _ _ low, le-ltb _ _ high, le-ltb _ _ passed))) ∙ so.same

      pub one_digit : value ≤ (0xFFFF_FFFF_FFFF_FFFF - (byte - 48)) / 10 → Counted field (10 * value + (byte - 48)) (at + 1)
      unfolding number_from
      one_digit l =
          let fits : 10 * value + (byte - 48) < 2 ^ 64 = omega arith in
          record {
            within = omega arith;
            same = sym (rw (drop-cons field at 0) (simp (le-ltb _ _ low, le-ltb _ _ high, lt-ltb _ _ fits, add-one))) ∙ so.same;
          }

pub all_counted : {field : List ℕ} {value at : ℕ} → Counted field value at → length field ≤ at → Ok value ≡ number_of field
unfolding number_from
all_counted {field} {value} {at} so h = sym (rw (drop_of_length-le field h) refl) ∙ so.same
