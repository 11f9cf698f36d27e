-- The operations that read or write marks, by the own bits of the acting team: each is the plain operation on them. Definitions: nothing is assumed.
use Rattle.std.specs.Prelude.{ℕ, ◌≡◌, List, eqb, ltb, ℤ, Result}
use Rattle.terms.specs.declared.Refusal.{Refusal}
use Rattle.split.specs.declared.Figures.{Figures}
use Rattle.terms.specs.Outcome.{Outcome, accepted, refused, says}
use Rattle.terms.specs.Numbers.{pick}
use Rattle.bits.specs.declared.Bits.{Bits}
use Rattle.bits.specs.Own.{bits_of, with_bits}
use Rattle.split.specs.Split.{SplitPromise}
use Rattle.draw.specs.Row.{full, mark_by, draw_marks, ones}
use Rattle.draw.specs.Draw.{DrawPromise}
use Rattle.findings.specs.Findings.{PostPromise}
use Rattle.findings.specs.Batch.{PostAllPromise}

-- a team is a byte: A is 0x41, B is 0x42
abbrev pub team_a : ℕ
team_a = 65

abbrev pub team_b : ℕ
team_b = 66

-- A has bits 0 and 1 of each mark, B bits 2 and 3; 24 where the team is neither
unfoldable pub team_of : ℕ → Outcome Bits
team_of team = pick (eqb team team_a) (accepted Bits.Low) (pick (eqb team team_b) (accepted Bits.High) (refused 24 0))

-- a call that writes marks: the plain promise holds of the own bits, which are `own` at exit, and nothing else is written
pub record OnBits {R : Type 0} (Plain : List ℕ → R → List ℕ → Type 0) (bits : Bits) (marks : List ℕ) (r : R) (marks' : List ℕ) : Type 0 where
  pub own : List ℕ
  pub promised : Plain (bits_of bits marks) r own
  pub written : marks' ≡ with_bits bits marks own

-- the draw's mark of a line from whose first cent the next drawing point is `next` cents on
unfoldable pub mark_at : ℕ → ℕ → ℕ → ℕ
mark_at J next value = mark_by (full J value) (ltb next value)

-- the draw's marks written into the own bits at an interval and a start, and how many lines are drawn
pub record OwnMarked (bits : Bits) (J start : ℕ) (ledger marks : List ℕ) (drawn : ℕ) (marks' : List ℕ) : Type 0 where
  pub written : marks' ≡ with_bits bits marks (draw_marks J start ledger)
  pub count : drawn ≡ ones (draw_marks J start ledger)

-- a team's call: where the team is unknown, its refusal, and the lent buffer as it was; else what the call promises by the team's own bits
pub record ByTeam {A R B : Type 0} (says : R → Outcome A) (team : ℕ) (Acting : Bits → Type 0) (before : B) (r : R) (exit : B) : Type 0 where
  pub unknown : (number place : ℕ) → team_of team ≡ refused number place → (says r ≡ refused number place) × (exit ≡ before)
  pub acting : (bits : Bits) → team_of team ≡ accepted bits → Acting bits

-- what each operation promises
abbrev pub TeamSplitPromise : ℕ → List ℕ → ℕ → List ℕ → Result Figures Refusal → List ℕ → Type 0
TeamSplitPromise team ledger n marks r marks' = ByTeam says team (λ bits. OnBits (SplitPromise ledger n) bits marks r marks') marks r marks'

abbrev pub TeamDrawPromise : ℕ → List ℕ → ℕ → ℕ → List ℕ → Result ℕ Refusal → List ℕ → Type 0
TeamDrawPromise team ledger n start marks r marks' = ByTeam says team (λ bits. OnBits (DrawPromise ledger n start) bits marks r marks') marks r marks'

abbrev pub TeamPostPromise : ℕ → List ℕ → List ℕ → List ℤ → ℕ → ℤ → Result ℕ Refusal → List ℤ → Type 0
TeamPostPromise team ledger marks errors line error r errors' =
    ByTeam says team (λ bits. PostPromise ledger (bits_of bits marks) errors line error r errors') errors r errors'

abbrev pub TeamPostAllPromise : ℕ → List ℕ → List ℕ → List ℤ → List ℕ → List ℤ → Result ℕ Refusal → List ℤ → Type 0
TeamPostAllPromise team ledger marks errors lines found r errors' =
    ByTeam says team (λ bits. PostAllPromise ledger (bits_of bits marks) errors lines found r errors') errors r errors'
