-- What holds of the calls of two teams that keep their marks in one table: neither goes by the other's bits nor touches them, and their calls may be
-- made in either order. Definitions: nothing is assumed.
use Rattle.std.specs.Prelude.{ℕ, ◌≡◌, false, List, ℤ, length, get_or, Result}
use Rattle.terms.specs.declared.Refusal.{Refusal}
use Rattle.split.specs.declared.Figures.{Figures}
use Rattle.terms.specs.Outcome.{accepted, refused, says}
use Rattle.bits.specs.declared.Bits.{Bits}
use Rattle.bits.specs.Own.{bits_of, bit, owns, TwoTeams}
use Rattle.teams.specs.Teams.{team_of, TeamSplitPromise, TeamDrawPromise, TeamPostPromise, TeamPostAllPromise}

-- a call that writes marks: the split with a number of draws, or the draw with them from a start
pub data MarksCall : Type 0 where
  splitting : ℕ → MarksCall
  drawing : ℕ → ℕ → MarksCall

abbrev pub AnswerTo : MarksCall → Type 0
AnswerTo (splitting n) = (Result Figures Refusal)
AnswerTo (drawing n start) = (Result ℕ Refusal)

-- a team's call on a ledger and marks came to this answer and these marks
abbrev pub Called : ℕ → List ℕ → (call : MarksCall) → List ℕ → AnswerTo call → List ℕ → Type 0
Called team ledger (splitting n) marks r marks' = TeamSplitPromise team ledger n marks r marks'
Called team ledger (drawing n start) marks r marks' = TeamDrawPromise team ledger n start marks r marks'

-- the answer is this refusal
abbrev pub RefusedBy : (call : MarksCall) → AnswerTo call → ℕ → ℕ → Type 0
RefusedBy (splitting n) r number place = says r ≡ refused number place
RefusedBy (drawing n start) r number place = says r ≡ refused number place

-- a call that reads marks: one finding, or a batch of them
pub data PostCall : Type 0 where
  posting : ℕ → ℤ → PostCall
  batch : List ℕ → List ℤ → PostCall

-- a team's call on a ledger, marks and errors came to this answer and these errors
abbrev pub PostCalled : ℕ → List ℕ → PostCall → List ℕ → List ℤ → Result ℕ Refusal → List ℤ → Type 0
PostCalled team ledger (posting line error) marks errors r errors' = TeamPostPromise team ledger marks errors line error r errors'
PostCalled team ledger (batch lines found) marks errors r errors' = TeamPostAllPromise team ledger marks errors lines found r errors'

-- of every ledger; a team is named with its own bits
pub record Apart (ledger : List ℕ) : Type 0 where
  -- marks that agree in a team's own bits give it the same answer and the same own bits, whatever their other bits are
  pub alone : (team : ℕ) (bits : Bits) → team_of team ≡ accepted bits → (call : MarksCall) (marks others marks' others' : List ℕ) (r s : AnswerTo call) →
      bits_of bits marks ≡ bits_of bits others → Called team ledger call marks r marks' → Called team ledger call others s others' →
      (r ≡ s) × (bits_of bits marks' ≡ bits_of bits others')
  -- and the same errors
  pub post_alone : (team : ℕ) (bits : Bits) → team_of team ≡ accepted bits → (call : PostCall) (marks others : List ℕ) (errors errors' errors'' : List ℤ) (r s : Result ℕ Refusal) →
      bits_of bits marks ≡ bits_of bits others → PostCalled team ledger call marks errors r errors' → PostCalled team ledger call others errors s errors'' →
      (r ≡ s) × (errors' ≡ errors'')
  -- every bit that is not the team's own, the other team's and bits 4 to 7, is at exit what it was
  pub others_stay : (team : ℕ) (bits : Bits) → team_of team ≡ accepted bits → (call : MarksCall) (marks marks' : List ℕ) (r : AnswerTo call) →
      Called team ledger call marks r marks' → (line k : ℕ) → owns bits k ≡ false → bit k (get_or marks' line 0) ≡ bit k (get_or marks line 0)
  pub as_many : (team : ℕ) (call : MarksCall) (marks marks' : List ℕ) (r : AnswerTo call) → Called team ledger call marks r marks' → length marks' ≡ length marks
  -- a refused call changes no bit
  pub refused_none : (team : ℕ) (call : MarksCall) (marks marks' : List ℕ) (r : AnswerTo call) (number place : ℕ) →
      Called team ledger call marks r marks' → RefusedBy call r number place → marks' ≡ marks
  -- two teams' calls in either order: the same answers, and the same marks in the end
  pub either_order : (team other : ℕ) (bits others : Bits) → team_of team ≡ accepted bits → team_of other ≡ accepted others → TwoTeams bits others →
      (call later : MarksCall) (marks first both second turned : List ℕ) (r r' : AnswerTo call) (s s' : AnswerTo later) →
      Called team ledger call marks r first → Called other ledger later first s both →
      Called other ledger later marks s' second → Called team ledger call second r' turned →
      (r ≡ r') × (s ≡ s') × (both ≡ turned)
  -- a team posts before the other's call or after it
  pub post_either : (team other : ℕ) (bits others : Bits) → team_of team ≡ accepted bits → team_of other ≡ accepted others → TwoTeams bits others →
      (call : PostCall) (later : MarksCall) (marks marks' : List ℕ) (errors errors' errors'' : List ℤ) (r r' : Result ℕ Refusal) (s : AnswerTo later) →
      Called other ledger later marks s marks' → PostCalled team ledger call marks errors r errors' → PostCalled team ledger call marks' errors r' errors'' →
      (r ≡ r') × (errors' ≡ errors'')
