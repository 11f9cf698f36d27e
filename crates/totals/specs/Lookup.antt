-- The line that holds a cent: by the summary's figures as they stand, and in the ledger alone. Definitions: nothing is assumed.
use Rattle.std.specs.Prelude.{ℕ, suc, ◌+◌, ◌*◌, ◌-◌, ◌≤◌, ◌<◌, ◌≡◌, List, [], ◌∷◌, ltb, length, take, drop, get_or, Result, Ok, Err}
use Rattle.terms.specs.declared.Refusal.{Refusal}
use Rattle.terms.specs.declared.Item.{Item}
use Rattle.terms.specs.Outcome.{Outcome, accepted, refused, refused_by, after}
use Rattle.terms.specs.Numbers.{pick, sum}
use Rattle.terms.specs.Limits.{most_lines}
use Rattle.totals.specs.Summary.{per_block, in_use, shape_of}

-- what an answer says: the number of the line. Not `says`: the code answers an item, and these definitions speak of line numbers
abbrev pub find_says : Result Item Refusal → Outcome ℕ
find_says (Ok item) = accepted item.0
find_says (Err why) = refused_by why

-- from a line's number on, the first line that is more than what is left of the cent; 31 with the block where there is none
unfoldable pub line_within : ℕ → ℕ → ℕ → List ℕ → Outcome ℕ
line_within block line cent [] = refused 31 block
line_within block line cent (value ∷ later) = let rest = line_within block (suc line) (cent - value) later in pick (ltb cent value) (accepted line) rest

-- from a block's number on, the first block whose figure is more than what is left of the cent, and its lines; past all blocks 31 with their number
abbrev pub block_by : ℕ → ℕ → ℕ → List ℕ → List ℕ → Outcome ℕ
block_by size block cent [] lines = refused 31 block
block_by size block cent (figure ∷ later) lines =
    let rest = block_by size (suc block) (cent - figure) later (drop size lines) in
    pick (ltb cent figure) (line_within block (block * size) cent (take size lines)) rest

unfoldable pub block_in : ℕ → ℕ → List ℕ → List ℕ → Outcome ℕ
block_in block cent figures lines = block_by per_block block cent figures lines

-- 20 where the cent is not below the grand total as it stands
unfoldable pub find_in : ℕ → List ℕ → List ℕ → ℕ → Outcome ℕ
find_in many lines summary cent = pick (ltb cent (get_or summary many 0)) (block_in 0 cent (take many summary) lines) (refused 20 0)

unfoldable pub find_of : List ℕ → ℕ → List ℕ → ℕ → Outcome ℕ
find_of room count summary cent = after (λ many. find_in many (in_use room count) summary cent) (shape_of most_lines count (length room) (length summary))

-- what `find` promises
pub record FindPromise (room : List ℕ) (count : ℕ) (summary : List ℕ) (cent : ℕ) (r : Result Item Refusal) : Type 0 where
  pub answer : find_says r ≡ find_of room count summary cent

-- a line holds a cent of the whole, unsplit ledger: the lines before it end at or before the cent, and the line ends after it
pub record HoldsCent (ledger : List ℕ) (cent line : ℕ) : Type 0 where
  pub inside : line < length ledger
  pub begins : sum (take line ledger) ≤ cent
  pub ends : cent < sum (take line ledger) + get_or ledger line 0

-- the line of a ledger that holds a cent, and the number of lines where the ledger ends before the cent
unfoldable pub line_holding : List ℕ → ℕ → ℕ
line_holding [] cent = 0
line_holding (value ∷ later) cent = pick (ltb cent value) 0 (suc (line_holding later (cent - value)))
