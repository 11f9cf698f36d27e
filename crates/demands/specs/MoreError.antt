-- More error never looks better, and a higher level never lowers the upper limit: document 02's K11, over the answers of the projection and the
-- judgement. Definitions: nothing is assumed.
use Rattle.std.specs.Prelude.{ℕ, ◌+◌, ◌≤◌, ◌≡◌, List, ℤ, pos, length, get_or}
use Rattle.terms.specs.Outcome.{Outcome, accepted, refused}
use Rattle.factors.specs.declared.Level.{Level}
use Rattle.factors.specs.Levels.{level_of}
use Rattle.signed.specs.declared.Part.TheVariants.{Overstated}
use Rattle.signed.specs.Parts.{part_of}
use Rattle.project.specs.declared.Projection.{Projection}
use Rattle.project.specs.Project.{project_of}
use Rattle.judge.specs.declared.Verdict.TheVariants.{Below, Above}
use Rattle.judge.specs.declared.Judgement.{Judgement}
use Rattle.judge.specs.Judge.{judge_of}

-- the error of a line, and how much of it is overstated; past the end of the errors there is none
abbrev pub error_at : List ℤ → ℕ → ℤ
error_at errors line = get_or errors line (pos 0)

abbrev pub over_at : List ℤ → ℕ → ℕ
over_at errors line = part_of Overstated (error_at errors line)

-- one finding changed: the errors agree but at one line
abbrev pub OneChanged : ℕ → List ℤ → List ℤ → Type 0
OneChanged line before now = (other : ℕ) → ¬ (other ≡ line) → error_at before other ≡ error_at now other

-- and raised: the overstatement there is at least what it was
pub record OneRaised (line : ℕ) (before now : List ℤ) : Type 0 where
  pub raised : over_at before line ≤ over_at now line
  pub others : OneChanged line before now

-- any number of findings raised: no line's overstatement is less than before
abbrev pub NoneLowered : List ℤ → List ℤ → Type 0
NoneLowered before now = (line : ℕ) → over_at before line ≤ over_at now line

-- what a judgement can answer once one finding is changed: 14 or 15 at its line, and 16, are all that it can earn
pub data CanAnswer (line : ℕ) : Outcome Judgement → Type 0 where
  judged : {now : Judgement} → CanAnswer line (accepted now)
  too_large : CanAnswer line (refused 14 line)
  not_drawn : CanAnswer line (refused 15 line)
  too_many : CanAnswer line (refused 16 0)

-- the projected error
abbrev pub projected_error : Projection → ℕ
projected_error projection = projection.full + projection.sampled

-- the second judgement looks no better than the first
pub record NoBetter (before now : Judgement) : Type 0 where
  pub projected : projected_error before.projection ≤ projected_error now.projection
  pub limit : before.upper_limit ≤ now.upper_limit
  -- what was above is above
  pub above : before.verdict ≡ Above → now.verdict ≡ Above
  -- and what is below was below: inconclusive never becomes below
  pub below : now.verdict ≡ Below → before.verdict ≡ Below

-- one finding raised: m, too, is not lower, and one more at most
pub record OneStep (before now : Judgement) : Type 0 where
  pub no_better : NoBetter before now
  pub m : before.projection.m ≤ now.projection.m
  pub one_more : now.projection.m ≤ before.projection.m + 1

-- at a higher level the projection is the same, and neither precision nor limit is lower; above is what was above, and below may become inconclusive
pub record HigherLevel (low high : Judgement) : Type 0 where
  pub projection : low.projection ≡ high.projection
  pub precision : low.precision ≤ high.precision
  pub no_better : NoBetter low high
  pub above_only : high.verdict ≡ Above → low.verdict ≡ Above

-- with ledger, n and start fixed
pub record MoreError (ledger : List ℕ) (n start : ℕ) : Type 0 where
  -- one finding changed, up or down
  pub changed : (level te line : ℕ) (before now : List ℤ) → length now ≡ length before → OneChanged line before now → (j : Judgement) →
      judge_of level ledger n start before te ≡ accepted j → CanAnswer line (judge_of level ledger n start now te)
  -- the projection by itself
  pub projection : (before now : List ℤ) → NoneLowered before now → (p q : Projection) →
      project_of ledger n start before ≡ accepted p → project_of ledger n start now ≡ accepted q → projected_error p ≤ projected_error q
  -- one finding raised
  pub one : (level te line : ℕ) (before now : List ℤ) → OneRaised line before now → (j k : Judgement) →
      judge_of level ledger n start before te ≡ accepted j → judge_of level ledger n start now te ≡ accepted k → OneStep j k
  -- any number of findings raised, at the same level or a higher one
  pub several : (low high te : ℕ) (before now : List ℤ) → low ≤ high → NoneLowered before now → (j k : Judgement) →
      judge_of low ledger n start before te ≡ accepted j → judge_of high ledger n start now te ≡ accepted k → NoBetter j k
  -- each of the nine levels answers where one of them does
  pub answers : (one other te : ℕ) (errors : List ℤ) (level : Level) (j : Judgement) →
      judge_of one ledger n start errors te ≡ accepted j → level_of other ≡ accepted level → (k : Judgement) × (judge_of other ledger n start errors te ≡ accepted k)
  -- a higher level, all else as it is
  pub level : (low high te : ℕ) (errors : List ℤ) → low ≤ high → (j k : Judgement) →
      judge_of low ledger n start errors te ≡ accepted j → judge_of high ledger n start errors te ≡ accepted k → HigherLevel j k
