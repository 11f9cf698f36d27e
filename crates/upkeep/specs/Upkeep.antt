-- A line in use that is changed, and one that is appended: the refusals, the new figures, and what is written. Definitions: nothing is assumed.
use Rattle.std.specs.Prelude.{ℕ, ◌+◌, ◌-◌, ◌/◌, ◌^◌, ◌≡◌, List, ltb, length, get_or, set, Result}
use Rattle.terms.specs.declared.Refusal.{Refusal}
use Rattle.terms.specs.Outcome.{Outcome, accepted, refused, after, left, says}
use Rattle.terms.specs.Numbers.{pick}
use Rattle.terms.specs.Limits.{most_lines, most_value, most_total}
use Rattle.totals.specs.Summary.{per_block, blocks, shape_of}
use Rattle.upkeep.specs.declared.{NewFigures.NewFigures}

-- 3 where the value is too large, 4 where the grand total is, with the old value out and the new one in: one that would fall below 0 is not
unfoldable pub value_judged : ℕ → ℕ → ℕ → ℕ → Outcome ℕ
value_judged line value old grand =
    pick (ltb most_value value) (refused 3 line) (pick (ltb (most_total + old) (grand + value)) (refused 4 line) (accepted value))

-- a figure with the old value out and the new one in; 31 where it would fall below 0 or pass 64 bits
unfoldable pub figure_moved : ℕ → ℕ → ℕ → ℕ → Outcome ℕ
figure_moved block figure old value =
    pick (ltb (figure + value) old) (refused 31 block)
    (pick (ltb (figure + value) (2 ^ 64 + old)) (accepted (figure + value - old)) (refused 31 block))

abbrev pub new_figures : ℕ → ℕ → NewFigures
new_figures figure grand = record { figure = figure; grand = grand }

-- the figure of the line's block first, then the grand total, which counts as one block more
unfoldable pub both_moved : ℕ → ℕ → ℕ → ℕ → ℕ → ℕ → Outcome NewFigures
both_moved line value old many figure grand =
    after (λ first. after (λ second. accepted (new_figures first second)) (figure_moved many grand old value)) (figure_moved (line / per_block) figure old value)

-- 3, 4, 31
unfoldable pub changed_to : ℕ → ℕ → ℕ → ℕ → ℕ → ℕ → Outcome NewFigures
changed_to line value old many figure grand = after (λ new. both_moved line new old many figure grand) (value_judged line value old grand)

-- 3, 4, 18, 31
unfoldable pub appended_to : ℕ → ℕ → ℕ → ℕ → ℕ → ℕ → Outcome NewFigures
appended_to count room value many figure grand =
    after (λ new. pick (ltb count room) (both_moved count new 0 many figure grand) (refused 18 (count + 1))) (value_judged count value 0 grand)

-- a change: the shape, 20 where the line is not in use, then these
unfoldable pub change_of : List ℕ → ℕ → List ℕ → ℕ → ℕ → Outcome NewFigures
change_of room count summary line value =
    after
    (λ many. pick (ltb line count)
    (changed_to line value (get_or room line 0) many (get_or summary (line / per_block) 0) (get_or summary many 0)) (refused 20 0))
    (shape_of most_lines count (length room) (length summary))

-- the lines that may be in use before one is appended
abbrev pub most_before : ℕ
most_before = most_lines - 1

-- an append: the shape, with one line less, then these
unfoldable pub append_of : List ℕ → ℕ → List ℕ → ℕ → Outcome NewFigures
append_of room count summary value =
    after
    (λ many. appended_to count (length room) value many (get_or summary (count / per_block) 0) (get_or summary many 0))
    (shape_of most_before count (length room) (length summary))

-- what is written: the line, and the two figures
unfoldable pub line_set : List ℕ → ℕ → ℕ → NewFigures → List ℕ
line_set room line value new = set room line value

unfoldable pub figures_set : ℕ → List ℕ → ℕ → NewFigures → List ℕ
figures_set room summary line new = set (set summary (line / per_block) new.figure) (blocks room) new.grand

-- what `change` promises: the new grand total, and room and summary, which a refusal leaves
pub record ChangePromise (room : List ℕ) (count : ℕ) (summary : List ℕ) (line value : ℕ) (r : Result ℕ Refusal) (room' summary' : List ℕ) : Type 0 where
  pub answer : says r ≡ after (λ new. accepted new.grand) (change_of room count summary line value)
  pub room_left : room' ≡ left (line_set room line value) room (change_of room count summary line value)
  pub summary_left : summary' ≡ left (figures_set (length room) summary line) summary (change_of room count summary line value)

-- what `append` promises: the new count, and room and summary, which a refusal leaves
pub record AppendPromise (room : List ℕ) (count : ℕ) (summary : List ℕ) (value : ℕ) (r : Result ℕ Refusal) (room' summary' : List ℕ) : Type 0 where
  pub answer : says r ≡ after (λ new. accepted (count + 1)) (append_of room count summary value)
  pub room_left : room' ≡ left (line_set room count value) room (append_of room count summary value)
  pub summary_left : summary' ≡ left (figures_set (length room) summary count) summary (append_of room count summary value)
