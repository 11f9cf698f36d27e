-- A fault's line has room on a page of 80 bytes. Assumes nothing.
use mathlib.Core.List.{[], ◌∷◌, ◌++◌}
use Prim.Native.Nat.{◌^◌, ◌≤◌, ◌<◌}
use native.Mathlib.Omega.{arith}
use lib.ListN.{length, length-append}
use Rattle.pen.specs.Letters.{letters}
use Rattle.pen.specs.Text.{decimal}
use Rattle.pen.proofs.Lengths.{decimal_short}
use Rattle.entry.specs.declared.Notation.{Notation}
use Rattle.entry.specs.declared.Notation.TheVariants.{Desk, Programmes}
use Rattle.entry.specs.declared.Wrong.{Wrong}
use Rattle.entry.specs.declared.Wrong.TheVariants.{UnknownKind, NumberMissing, NotNumber, NumberTooLarge, FieldTooMany, NoPlan, SecondPlan, LevelTooLarge, OutOfOrder, NoStratum, TooManyWords, TooManyLines, TotalTooLarge, UnknownLine, LineNotRising, ErrorZero, ErrorTooLarge, NoRoom}
use Rattle.notation.specs.declared.Fault.{Fault}
use Rattle.faults.specs.Faults.{wrong_words, place_text, fault_text}

words_short : (by : Notation) (w : Wrong) → length (wrong_words by w) ≤ 52
words_short Desk UnknownKind = omega arith
words_short Programmes UnknownKind = omega arith
words_short by NumberMissing = omega arith
words_short by NotNumber = omega arith
words_short by NumberTooLarge = omega arith
words_short by FieldTooMany = omega arith
words_short Desk NoPlan = omega arith
words_short Programmes NoPlan = omega arith
words_short Desk SecondPlan = omega arith
words_short Programmes SecondPlan = omega arith
words_short by LevelTooLarge = omega arith
words_short Desk OutOfOrder = omega arith
words_short Programmes OutOfOrder = omega arith
words_short by NoStratum = omega arith
words_short by TooManyWords = omega arith
words_short by TooManyLines = omega arith
words_short by TotalTooLarge = omega arith
words_short by UnknownLine = omega arith
words_short by LineNotRising = omega arith
words_short by ErrorZero = omega arith
words_short by ErrorTooLarge = omega arith
words_short by NoRoom = omega arith

pub fault_short : (by : Notation) (fault : Fault) → fault.line < 2 ^ 64 → length (fault_text by fault) ≤ 80
fault_short by fault h =
    omega (
      arith,
      length-append (place_text fault.line) (wrong_words by fault.wrong ++ (10 ∷ [])),
      length-append (decimal fault.line) (letters ": "),
      length-append (wrong_words by fault.wrong) (10 ∷ []),
      words_short by fault.wrong,
      decimal_short fault.line h,
    )
