-- The draw by strata, as document 02, K6, has it: each stratum is drawn by itself, with its own interval and start. Definitions: nothing is assumed.
use Rattle.std.specs.Prelude.{ℕ, ◌≤◌, ◌≡◌, List, [], ◌∷◌, ◌++◌, length, get_or, drop, Result}
use Rattle.terms.specs.declared.Refusal.{Refusal}
use Rattle.terms.specs.Outcome.{Outcome, accepted, after, left, says}
use Rattle.terms.specs.Limits.{most_lines, most_total}
use Rattle.draw.specs.Row.{draw_marks, ones}
use Rattle.strata.specs.declared.Row.{Row}
use Rattle.strata.specs.Strata.{parts_of, no_row}
use Rattle.strata.specs.Starts.{started_of}
use Rattle.strata.specs.Steps.{Parted}

-- the marks of each stratum's own draw, in ledger order
unfoldable pub strata_marks : List (List ℕ) → List Row → List ℕ → List ℕ
unfolding draw_marks
strata_marks [] rows starts = []
strata_marks (part ∷ later) rows starts = draw_marks (get_or rows 0 no_row).figures.interval (get_or starts 0 0) part ++ strata_marks later (drop 1 rows) (drop 1 starts)

-- after the refusals of the plan and of the starts
unfoldable pub draw_strata_of : List ℕ → List ℕ → ℕ → List ℕ → ℕ → Outcome ℕ
unfolding strata_marks parts_of started_of ones
draw_strata_of ledger counts n starts beside = after (λ rows. accepted (ones (strata_marks (parts_of counts ledger) rows starts))) (started_of ledger counts n starts beside)

-- what `draw_strata` promises: the answer, and the marks, which a refusal leaves
pub record DrawStrataPromise (ledger counts : List ℕ) (n : ℕ) (starts marks : List ℕ) (r : Result ℕ Refusal) (marks' : List ℕ) : Type 0 where
  pub answer : says r ≡ draw_strata_of ledger counts n starts (length marks)
  pub marks_left : marks' ≡ left (λ rows. strata_marks (parts_of counts ledger) rows starts) marks (started_of ledger counts n starts (length marks))

-- what both start from: line counts that fit the ledger and what is lent beside it, and a start within each stratum's interval
pub record Underway (ledger counts : List ℕ) (rows : List Row) (starts : List ℕ) (beside : ℕ) : Type 0 where
  pub parted : Parted ledger counts
  pub few : length ledger ≤ most_lines
  pub same : beside ≡ length ledger
  pub as_many : length starts ≡ length counts
  pub narrow : (h : ℕ) → (get_or rows h no_row).figures.interval ≤ most_total
  pub early : (h : ℕ) → get_or starts h 0 ≤ (get_or rows h no_row).figures.interval

-- the strata marked, and how many lines are drawn
pub record MarkedStrata (parts : List (List ℕ)) (rows : List Row) (starts : List ℕ) (drawn : ℕ) (marks' : List ℕ) : Type 0 where
  pub marks : marks' ≡ strata_marks parts rows starts
  pub count : drawn ≡ ones (strata_marks parts rows starts)
