-- The draw by walking: its answer for every ledger, number of draws, start and length of the marks, and the marks. Definitions: nothing is assumed.
use Rattle.std.specs.Prelude.{ℕ, ◌≡◌, List, ltb, eqb, length, Result}
use Rattle.terms.specs.declared.Refusal.{Refusal}
use Rattle.terms.specs.Outcome.{Outcome, accepted, refused, after, left, says}
use Rattle.terms.specs.Numbers.{pick}
use Rattle.split.specs.declared.{Figures.Figures}
use Rattle.split.specs.Split.{split_of}
use Rattle.blackboard.specs.Board.{board_marks, drawn_lines}

-- a walk begins at 0, or at a cent below J; 11 elsewhere
abbrev pub walk_start : ℕ → Figures → Outcome Figures
walk_start start figures = pick (eqb start 0) (accepted figures) (pick (ltb start figures.interval) (accepted figures) (refused 11 0))

-- the split's figures, after its refusals and 11
unfoldable pub board_figures : List ℕ → ℕ → ℕ → ℕ → Outcome Figures
board_figures ledger n start beside = after (walk_start start) (split_of ledger n beside)

-- what `board_figures` promises
pub record BoardFiguresPromise (ledger : List ℕ) (n start beside : ℕ) (r : Result Figures Refusal) : Type 0 where
  pub answer : says r ≡ board_figures ledger n start beside

-- the marks at the figures' interval
abbrev pub board_marks_at : List ℕ → ℕ → Figures → List ℕ
board_marks_at ledger start figures = board_marks figures.interval start ledger

-- how many of them are 1
unfoldable pub board_draw_of : List ℕ → ℕ → ℕ → ℕ → Outcome ℕ
board_draw_of ledger n start beside = after (λ figures. accepted (drawn_lines (board_marks_at ledger start figures))) (board_figures ledger n start beside)

-- what `board_draw` promises: the answer, and the marks, which a refusal leaves
pub record BoardDrawPromise (ledger : List ℕ) (n start : ℕ) (marks : List ℕ) (r : Result ℕ Refusal) (marks' : List ℕ) : Type 0 where
  pub answer : says r ≡ board_draw_of ledger n start (length marks)
  pub marks_left : marks' ≡ left (board_marks_at ledger start) marks (board_figures ledger n start (length marks))
