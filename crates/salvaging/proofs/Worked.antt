-- A file with an old Z and a line added after it; one that is cut in its last record; a byte of room too little; and no whole P. Computed; assumes nothing.
use Prim.Native.Nat.{ℕ}
use Rattle.std.specs.Prelude.{Some, None}
use mathlib.Core.Path.{◌≡◌, refl}
use mathlib.Core.List.{List, [], ◌∷◌, ◌++◌}
use lib.ListN.{take}
use Rattle.terms.specs.Outcome.{accepted, refused}
use Rattle.signed.specs.Errors.{size_of, signed_of, most_size}
use Rattle.workfile.specs.Numbers.{little_endian}
use Rattle.workfile.specs.Decode.{record_of, record_at, fits, grow, stop, stop_in}
use Rattle.salvaging.specs.Salvage.{old_end, old_size, with_end, result_at, result_of, salvaged_at, salvaged_of, salvage_of}

abbrev plan : List ℕ
plan = 0x50 ∷ 90 ∷ 100 ∷ 0 ∷ 0 ∷ 0 ∷ 0 ∷ 0 ∷ 0 ∷ 0 ∷ 0 ∷ 0 ∷ 0 ∷ 0 ∷ 0 ∷ 0 ∷ 0 ∷ 0 ∷ []

abbrev value : ℕ → List ℕ
value v = 0x4C ∷ v ∷ 0 ∷ 0 ∷ 0 ∷ 0 ∷ 0 ∷ 0 ∷ 0 ∷ []

abbrev under : ℕ → ℕ → List ℕ
under l n = 0x55 ∷ l ∷ 0 ∷ 0 ∷ 0 ∷ n ∷ 0 ∷ 0 ∷ 0 ∷ 0 ∷ 0 ∷ 0 ∷ 0 ∷ []

abbrev last : ℕ → ℕ → List ℕ
last n s = 0x5A ∷ n ∷ 0 ∷ 0 ∷ 0 ∷ s ∷ 0 ∷ 0 ∷ 0 ∷ 0 ∷ 0 ∷ 0 ∷ 0 ∷ []

-- the old Z has figures of before, and a line of 9 bytes follows it
abbrev added : List ℕ
added = plan ++ value 30 ++ under 0 5 ++ last 0 7 ++ value 12

pub added_said : salvage_of added 53 ≡ accepted (record { length = 53; kept = 3; dropped = 9; lines = 1; sum = 30; old = Some (record { count = 0; sum = 7 }) })
unfolding salvage_of salvaged_of salvaged_at result_of result_at with_end stop_in stop record_at record_of fits grow old_end old_size little_endian most_size size_of signed_of
added_said = refl

pub added_result : result_of added ≡ plan ++ value 30 ++ under 0 5 ++ last 1 30
unfolding result_of result_at with_end stop_in stop record_at record_of fits grow little_endian most_size
added_result = refl

-- the second line ends after 4 bytes
pub cut_said : salvage_of (take 31 (plan ++ value 30 ++ value 12)) 40 ≡ accepted (record { length = 40; kept = 2; dropped = 4; lines = 1; sum = 30; old = None })
unfolding salvage_of salvaged_of salvaged_at result_of result_at with_end stop_in stop record_at record_of fits grow old_end old_size little_endian
cut_said = refl

pub byte_short : salvage_of (take 31 (plan ++ value 30 ++ value 12)) 39 ≡ refused 18 40
unfolding salvage_of result_of result_at with_end stop_in stop record_at record_of fits grow little_endian
byte_short = refl

-- P is cut short: 29 before 18
pub no_plan : salvage_of (take 17 plan) 0 ≡ refused 29 0
unfolding salvage_of
no_plan = refl
