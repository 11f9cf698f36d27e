-- Request K12's theorem: the draw and the projection by walking give the same marks, sums, counts and refusals as the first draw and projection, on every
-- input. Definitions: nothing is assumed.
use Rattle.std.specs.Prelude.{ℕ, ◌≡◌, List, ℤ, length, Result, Ok, Err}
use Rattle.terms.specs.declared.Refusal.{Refusal}
use Rattle.terms.specs.Outcome.{Outcome, accepted, after, left}
use Rattle.split.specs.Start.{figures_for}
use Rattle.draw.specs.Draw.{marks_at, draw_of}
use Rattle.project.specs.declared.{Projection.Projection}
use Rattle.project.specs.Project.{project_of}
use Rattle.blackboard.specs.declared.{BoardProjection.BoardProjection}
use Rattle.blackboard.specs.Draw.{board_figures, board_marks_at, board_draw_of}
use Rattle.blackboard.specs.Project.{board_project_of}

-- figure by figure, the walk's projection as the first method has it
abbrev pub as_projection : BoardProjection → Projection
as_projection p =
    record { full = p.full; sampled = p.sampled; m = p.m; under_full = p.under_full; under_sampled = p.under_sampled; net = p.net }

abbrev pub as_projected : Outcome BoardProjection → Outcome Projection
as_projected o = after (λ projection. accepted (as_projection projection)) o

-- on every input: the same count of drawn lines, the same marks, and the same sums of both kinds, m and net; or the same refusal, and the marks as they were
pub record SameAnswers (ledger : List ℕ) (n start : ℕ) (marks : List ℕ) (errors : List ℤ) : Type 0 where
  pub drawn : board_draw_of ledger n start (length marks) ≡ draw_of ledger n start (length marks)
  pub marked : left (board_marks_at ledger start) marks (board_figures ledger n start (length marks)) ≡ left (marks_at ledger start) marks (figures_for ledger n start (length marks))
  pub projected : as_projected (board_project_of ledger n start errors) ≡ project_of ledger n start errors

-- the walk's answer, as the first method gives it
abbrev pub as_project : Result BoardProjection Refusal → Result Projection Refusal
as_project (Ok projection) = Ok (as_projection projection)
as_project (Err why) = Err why
