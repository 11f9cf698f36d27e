-- The desk program's input of document 01's practice sheet, byte by byte: it is the file of its content and reads back to it.
-- Assumes nothing.
use Prim.Native.Nat.{ℕ}
use mathlib.Core.Path.{◌≡◌, refl}
use mathlib.Core.List.{List, [], ◌∷◌, ◌++◌}
use lib.ListN.{take}
use lib.IntN.{pos, negsuc}
use Rattle.terms.specs.Outcome.{accepted, refused}
use Rattle.signed.specs.Errors.{size_of, is_under, signed_of, most_size}
use Rattle.workfile.specs.Numbers.{little_endian}
use Rattle.workfile.specs.Content.{Content, encode}
use Rattle.workfile.specs.Decode.{decode, run, record_of, fits, grow}
use Rattle.workfile.specs.Promises.{read_of, write_of}

practice : Content
practice =
    record { plan = record { level = 90; te = 100; ae = 0 }; words = 63 ∷ 25 ∷ []; values = 30 ∷ 30 ∷ 40 ∷ 20 ∷ []; errors = pos 7 ∷ pos 0 ∷ pos 10 ∷ pos 5 ∷ [] }

practice_file : List ℕ
practice_file =
    0x50 ∷ 90 ∷ 100 ∷ 0 ∷ 0 ∷ 0 ∷ 0 ∷ 0 ∷ 0 ∷ 0 ∷ 0 ∷ 0 ∷ 0 ∷ 0 ∷ 0 ∷ 0 ∷ 0 ∷ 0 ∷
    0x57 ∷ 63 ∷ 0 ∷ 0 ∷ 0 ∷ 0 ∷ 0 ∷ 0 ∷ 0 ∷
    0x57 ∷ 25 ∷ 0 ∷ 0 ∷ 0 ∷ 0 ∷ 0 ∷ 0 ∷ 0 ∷
    0x4C ∷ 30 ∷ 0 ∷ 0 ∷ 0 ∷ 0 ∷ 0 ∷ 0 ∷ 0 ∷
    0x4C ∷ 30 ∷ 0 ∷ 0 ∷ 0 ∷ 0 ∷ 0 ∷ 0 ∷ 0 ∷
    0x4C ∷ 40 ∷ 0 ∷ 0 ∷ 0 ∷ 0 ∷ 0 ∷ 0 ∷ 0 ∷
    0x4C ∷ 20 ∷ 0 ∷ 0 ∷ 0 ∷ 0 ∷ 0 ∷ 0 ∷ 0 ∷
    0x45 ∷ 0 ∷ 0 ∷ 0 ∷ 0 ∷ 7 ∷ 0 ∷ 0 ∷ 0 ∷ 0 ∷ 0 ∷ 0 ∷ 0 ∷
    0x45 ∷ 2 ∷ 0 ∷ 0 ∷ 0 ∷ 10 ∷ 0 ∷ 0 ∷ 0 ∷ 0 ∷ 0 ∷ 0 ∷ 0 ∷
    0x45 ∷ 3 ∷ 0 ∷ 0 ∷ 0 ∷ 5 ∷ 0 ∷ 0 ∷ 0 ∷ 0 ∷ 0 ∷ 0 ∷ 0 ∷
    0x5A ∷ 4 ∷ 0 ∷ 0 ∷ 0 ∷ 120 ∷ 0 ∷ 0 ∷ 0 ∷ 0 ∷ 0 ∷ 0 ∷ 0 ∷ []

is_written : encode practice ≡ practice_file
unfolding practice practice_file encode size_of is_under
is_written = refl

is_read : decode practice_file ≡ accepted practice
unfolding practice practice_file decode run record_of fits grow little_endian signed_of most_size
is_read = refl

-- Errors of both kinds in one run: 3 overstated on line 0, 2^63 understated on line 1, 1 understated on line 2.
both_kinds : Content
both_kinds =
    record {
      plan = record { level = 90; te = 100; ae = 0 };
      words = [];
      values = 30 ∷ 30 ∷ 40 ∷ [];
      errors = pos 3 ∷ negsuc 9223372036854775807 ∷ negsuc 0 ∷ [];
    }

both_kinds_front : List ℕ
both_kinds_front =
    0x50 ∷ 90 ∷ 100 ∷ 0 ∷ 0 ∷ 0 ∷ 0 ∷ 0 ∷ 0 ∷ 0 ∷ 0 ∷ 0 ∷ 0 ∷ 0 ∷ 0 ∷ 0 ∷ 0 ∷ 0 ∷
    0x4C ∷ 30 ∷ 0 ∷ 0 ∷ 0 ∷ 0 ∷ 0 ∷ 0 ∷ 0 ∷
    0x4C ∷ 30 ∷ 0 ∷ 0 ∷ 0 ∷ 0 ∷ 0 ∷ 0 ∷ 0 ∷
    0x4C ∷ 40 ∷ 0 ∷ 0 ∷ 0 ∷ 0 ∷ 0 ∷ 0 ∷ 0 ∷
    0x45 ∷ 0 ∷ 0 ∷ 0 ∷ 0 ∷ 3 ∷ 0 ∷ 0 ∷ 0 ∷ 0 ∷ 0 ∷ 0 ∷ 0 ∷ []

-- an error of 2^63 on line 1, by its kind, and 1 understated on a line
largest : ℕ → List ℕ
largest kind = kind ∷ 1 ∷ 0 ∷ 0 ∷ 0 ∷ 0 ∷ 0 ∷ 0 ∷ 0 ∷ 0 ∷ 0 ∷ 0 ∷ 128 ∷ []

one_under : ℕ → List ℕ
one_under line = 0x55 ∷ line ∷ 0 ∷ 0 ∷ 0 ∷ 1 ∷ 0 ∷ 0 ∷ 0 ∷ 0 ∷ 0 ∷ 0 ∷ 0 ∷ []

both_kinds_end : List ℕ
both_kinds_end = 0x5A ∷ 3 ∷ 0 ∷ 0 ∷ 0 ∷ 100 ∷ 0 ∷ 0 ∷ 0 ∷ 0 ∷ 0 ∷ 0 ∷ 0 ∷ []

both_written : encode both_kinds ≡ both_kinds_front ++ largest 0x55 ++ one_under 2 ++ both_kinds_end
unfolding both_kinds both_kinds_front largest one_under both_kinds_end encode size_of is_under
both_written = refl

both_read : decode (both_kinds_front ++ largest 0x55 ++ one_under 2 ++ both_kinds_end) ≡ accepted both_kinds
unfolding both_kinds both_kinds_front largest one_under both_kinds_end decode run record_of fits grow little_endian signed_of most_size
both_read = refl

-- E holds no 2^63, and U rises past the lines of E
most_refused : decode (both_kinds_front ++ largest 0x45 ++ one_under 2 ++ both_kinds_end) ≡ refused 17 58
unfolding both_kinds_front largest one_under both_kinds_end decode run record_of fits grow little_endian most_size
most_refused = refl

line_again : decode (both_kinds_front ++ one_under 0 ++ both_kinds_end) ≡ refused 17 58
unfolding both_kinds_front one_under both_kinds_end decode run record_of fits grow little_endian most_size
line_again = refl

-- a byte after Z, a file that ends before its Z, a record cut short, and no byte at all
byte_after : decode (practice_file ++ (0 ∷ [])) ≡ refused 17 124
unfolding practice_file decode run record_of fits grow little_endian most_size
byte_after = refl

no_end : decode (take 111 practice_file) ≡ refused 17 111
unfolding practice_file decode run record_of fits grow little_endian most_size
no_end = refl

cut_short : decode (take 123 practice_file) ≡ refused 17 111
unfolding practice_file decode run record_of fits grow little_endian most_size
cut_short = refl

empty : decode [] ≡ refused 17 0
unfolding decode
empty = refl

-- the rooms: one entry short, one byte short, and enough
entry_short : read_of practice_file 64 2048 2047 ≡ refused 18 2048
unfolding read_of
entry_short = refl

byte_short : write_of practice 123 ≡ refused 18 124
unfolding practice write_of encode size_of
byte_short = refl

room_enough : write_of practice 124 ≡ accepted practice_file
unfolding practice practice_file write_of encode size_of is_under
room_enough = refl
