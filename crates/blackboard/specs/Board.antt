-- The blackboard: for each drawing point lines are counted off from the first until the point is covered. Nothing is shared with the first draw but the
-- split. Definitions: nothing is assumed.
use Rattle.std.specs.Prelude.{ℕ, zero, suc, ◌+◌, List, [], ◌∷◌, ltb, eqb, set}
use Rattle.terms.specs.Numbers.{pick}
use Rattle.split.specs.Split.{full_marks}

-- what a line counts for: its cents; a full line is above J and is passed over
abbrev pub counts_for : ℕ → ℕ → ℕ
counts_for J value = pick (ltb J value) 0 value

-- the cent at which the row ends: all lines counted off
unfoldable pub row_end : ℕ → List ℕ → ℕ
row_end J [] = 0
row_end J (value ∷ later) = counts_for J value + row_end J later

-- how many further lines are passed before one covers the point, where so many cents are counted already; all of them where none does
unfoldable pub count_on : ℕ → ℕ → ℕ → List ℕ → ℕ
count_on J point counted [] = 0
count_on J point counted (value ∷ later) =
    let on = count_on J point (counted + counts_for J value) later in pick (ltb point (counted + counts_for J value)) 0 (suc on)

-- the line at which counting off stops: it begins at the first line, with nothing counted
abbrev pub stop_at : ℕ → List ℕ → ℕ → ℕ
stop_at J ledger point = count_on J point 0 ledger

-- the points from one on, each J after the last, up to the row's end. A row has no more points than cents, and so many steps are enough
-- (`points_each` of proofs/Walking.antt).
unfoldable pub points_from : ℕ → ℕ → ℕ → ℕ → List ℕ
points_from zero J end point = []
points_from (suc more) J end point = let later = points_from more J end (point + J) in pick (ltb point end) (point ∷ later) []

unfoldable pub points_of : ℕ → ℕ → List ℕ → List ℕ
points_of J start ledger = points_from (row_end J ledger) J (row_end J ledger) start

-- point after point: the line at which the counting stops is marked 1
unfoldable pub marked : ℕ → List ℕ → List ℕ → List ℕ → List ℕ
marked J ledger [] marks = marks
marked J ledger (point ∷ later) marks = marked J ledger later (set marks (stop_at J ledger point) 1)

-- the marks: those of the split, 2 for full and 0 for the others, and then 1 for each line that covers a point
unfoldable pub board_marks : ℕ → ℕ → List ℕ → List ℕ
board_marks J start ledger = marked J ledger (points_of J start ledger) (full_marks J ledger)

-- how many lines are marked 1
unfoldable pub drawn_lines : List ℕ → ℕ
drawn_lines [] = 0
drawn_lines (mark ∷ later) = pick (eqb mark 1) 1 0 + drawn_lines later
