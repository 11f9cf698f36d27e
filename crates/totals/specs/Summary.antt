-- The summary beside a room with a count of lines in use: when it agrees, building it, and the grand total as it stands. Definitions: nothing is assumed.
use Rattle.std.specs.Prelude.{ℕ, zero, suc, ◌+◌, ◌*◌, ◌^◌, ◌≤◌, ◌<◌, ◌≡◌, List, [], ◌∷◌, ◌++◌, ltb, eqb, length, take, drop, get_or, Result}
use Rattle.terms.specs.declared.Refusal.{Refusal}
use Rattle.terms.specs.Outcome.{Outcome, accepted, refused, after, left, says}
use Rattle.terms.specs.Numbers.{pick, div_up, sum}
use Rattle.terms.specs.Limits.{most_lines}
use Rattle.ledger.specs.Ledger.{running_total}

-- the entries of the room that one total stands for
abbrev pub per_block : ℕ
per_block = 256

-- the blocks of a room
unfoldable pub blocks : ℕ → ℕ
blocks room = div_up room per_block

-- the lines in use
abbrev pub in_use : List ℕ → ℕ → List ℕ
in_use room count = take count room

-- the lines of the block that begins at a line
unfoldable pub block_from : ℕ → List ℕ → List ℕ
block_from from lines = take per_block (drop from lines)

-- the totals of so many blocks of a size
abbrev pub totals_by : ℕ → ℕ → List ℕ → List ℕ
totals_by size zero lines = []
totals_by size (suc many) lines = sum (take size lines) ∷ totals_by size many (drop size lines)

unfoldable pub block_totals : ℕ → List ℕ → List ℕ
block_totals many lines = totals_by per_block many lines

-- the summary of a room with a count of lines in use: the total of each block, then the grand total
unfoldable pub summary_for : List ℕ → ℕ → List ℕ
summary_for room count = block_totals (blocks (length room)) (in_use room count) ++ (sum (in_use room count) ∷ [])

-- a summary agrees with its ledger: each figure is the sum of its block's lines in use, and the last that of all
pub record Agrees (room : List ℕ) (count : ℕ) (summary : List ℕ) : Type 0 where
  pub long : length summary ≡ blocks (length room) + 1
  pub figures : (block : ℕ) → block < blocks (length room) → get_or summary block 0 ≡ sum (block_from (block * per_block) (in_use room count))
  pub grand : get_or summary (blocks (length room)) 0 ≡ sum (in_use room count)

-- 2, 13 and 21, in this order, or the number of blocks; `most` is the largest count, `beside` the length of the summary
unfoldable pub shape_of : ℕ → ℕ → ℕ → ℕ → Outcome ℕ
shape_of most count room beside =
    pick (ltb most count) (refused 2 0)
    (pick (ltb room count) (refused 13 0) (pick (eqb beside (blocks room + 1)) (accepted (blocks room)) (refused 21 0)))

-- building: the shape, then 3 and 4 line by line over the lines in use, or the grand total
unfoldable pub build_of : List ℕ → ℕ → ℕ → Outcome ℕ
build_of room count beside = after (λ many. running_total (in_use room count)) (shape_of most_lines count (length room) beside)

-- the summary that building leaves, whatever the total is
unfoldable pub built_summary : List ℕ → ℕ → ℕ → List ℕ
built_summary room count total = summary_for room count

-- the grand total as it stands
unfoldable pub grand_total_of : List ℕ → ℕ → List ℕ → Outcome ℕ
grand_total_of room count summary = after (λ many. accepted (get_or summary many 0)) (shape_of most_lines count (length room) (length summary))

-- what `build` promises: the answer, and the summary, which a refusal leaves
pub record BuildPromise (room : List ℕ) (count : ℕ) (summary : List ℕ) (r : Result ℕ Refusal) (summary' : List ℕ) : Type 0 where
  pub answer : says r ≡ build_of room count (length summary)
  pub summary_left : summary' ≡ left (built_summary room count) summary (build_of room count (length summary))

-- what `total` promises
pub record TotalPromise (room : List ℕ) (count : ℕ) (summary : List ℕ) (r : Result ℕ Refusal) : Type 0 where
  pub answer : says r ≡ grand_total_of room count summary

-- what the loops over the blocks ask
pub record Fillable (lines : List ℕ) (many : ℕ) (summary : List ℕ) : Type 0 where
  pub fits : length summary ≡ many + 1
  pub few : many ≤ 2 ^ 56
  pub small : sum lines < 2 ^ 64
