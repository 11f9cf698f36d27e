-- Worked cases, computed by the definitions. Assumes nothing.
use Prim.Native.Nat.{ℕ}
use mathlib.Core.Path.{◌≡◌, refl}
use mathlib.Core.List.{List, [], ◌∷◌}
use lib.ListN.{replicate}
use Rattle.terms.specs.Outcome.{accepted, refused}
use Rattle.terms.specs.Numbers.{div_up}
use Rattle.ledger.specs.Ledger.{running_from, running_total}
use Rattle.std.specs.Prelude.{Some, None}
use Rattle.totals.specs.Summary.{blocks, block_totals, summary_for, shape_of}
use Rattle.totals.specs.Lookup.{line_within, block_in, find_in, find_of}
use Rattle.totals.specs.Comparison.{first_wrong, compared_of}

-- a room of 600 entries, of which 300 lines of 2 cents are in use: three blocks
abbrev pub room : List ℕ
room = replicate 600 2

abbrev pub right : List ℕ
right = 512 ∷ 88 ∷ 0 ∷ 600 ∷ []

pub built : summary_for room 300 ≡ right
unfolding summary_for blocks div_up block_totals
built = refl

-- cent 514 lies in the second block, on line 257; with a figure that is wrong the line follows from the figure
pub found : find_of room 300 right 514 ≡ accepted 257
unfolding find_of find_in block_in line_within shape_of blocks div_up
found = refl

pub found_as_it_stands : find_of room 300 (510 ∷ 90 ∷ 0 ∷ 600 ∷ []) 514 ≡ accepted 258
unfolding find_of find_in block_in line_within shape_of blocks div_up
found_as_it_stands = refl

-- a figure that is too large: its block has no such line, 31; figures that are too small: past all blocks, 31 with their number
pub no_line : find_of room 300 (600 ∷ 88 ∷ 0 ∷ 600 ∷ []) 599 ≡ refused 31 0
unfolding find_of find_in block_in line_within shape_of blocks div_up
no_line = refl

pub no_block : find_of room 300 (100 ∷ 88 ∷ 0 ∷ 600 ∷ []) 599 ≡ refused 31 3
unfolding find_of find_in block_in line_within shape_of blocks div_up
no_block = refl

-- the check: right; the first wrong block; the grand total last
pub checked : compared_of room 300 right ≡ accepted None
unfolding compared_of first_wrong summary_for block_totals running_total running_from shape_of blocks div_up
checked = refl

pub checked_wrong : compared_of room 300 (512 ∷ 87 ∷ 1 ∷ 600 ∷ []) ≡ accepted (Some 1)
unfolding compared_of first_wrong summary_for block_totals running_total running_from shape_of blocks div_up
checked_wrong = refl

pub checked_grand : compared_of room 300 (512 ∷ 88 ∷ 0 ∷ 601 ∷ []) ≡ accepted (Some 3)
unfolding compared_of first_wrong summary_for block_totals running_total running_from shape_of blocks div_up
checked_grand = refl
