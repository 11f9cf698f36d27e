-- The projection by walking: its answer for every ledger, number of draws, start and errors, from the marks of the walk. Definitions: nothing is assumed.
use Rattle.std.specs.Prelude.{ℕ, suc, ◌+◌, ◌*◌, ◌≡◌, false, List, [], ◌∷◌, ltb, eqb, ℤ, pos, ◌-ℤ◌, length, get_or, drop, Result}
use Rattle.terms.specs.declared.Refusal.{Refusal}
use Rattle.terms.specs.Outcome.{Outcome, accepted, refused, after, says}
use Rattle.terms.specs.Numbers.{pick, div_up}
use Rattle.signed.specs.Errors.{overstated, understated, size_of}
use Rattle.split.specs.declared.Figures.{Figures}
use Rattle.blackboard.specs.declared.{BoardSums.BoardSums, BoardKinds.BoardKinds, BoardProjection.BoardProjection}
use Rattle.blackboard.specs.Board.{board_marks}
use Rattle.blackboard.specs.Draw.{board_figures}

-- the amount of a drawn line: error × J / value, rounded up
unfoldable pub board_amount : ℕ → ℕ → ℕ → ℕ
board_amount J value error = div_up (error * J) value

-- the sums of a kind with one line more: at mark 2 its error; at mark 1 its amount, and one to m where it has an error; at 0 nothing
abbrev pub with_line : ℕ → BoardSums → ℕ → ℕ → ℕ → BoardSums
with_line J sums mark value error =
    pick (eqb mark 2) (record { full = sums.full + error; sampled = sums.sampled; m = sums.m })
    (pick (eqb mark 1) (record { full = sums.full; sampled = sums.sampled + board_amount J value error; m = sums.m + pick (ltb 0 error) 1 0 }) sums)

-- each kind by itself
abbrev pub both_with : ℕ → BoardKinds → ℕ → ℕ → ℤ → BoardKinds
both_with J kinds mark value error =
    record { over = with_line J kinds.over mark value (overstated error); under = with_line J kinds.under mark value (understated error) }

-- 14 where the error's size exceeds the value, then 15 where there is an error and no mark
unfoldable pub line_added : ℕ → ℕ → BoardKinds → ℕ → ℕ → ℤ → Outcome BoardKinds
line_added J item kinds mark value error =
    pick (ltb value (size_of error)) (refused 14 item)
    (pick (pick (eqb mark 0) (ltb 0 (size_of error)) false) (refused 15 item) (accepted (both_with J kinds mark value error)))

-- line by line, from an item's number on
unfoldable pub added_from : ℕ → ℕ → BoardKinds → List ℕ → List ℕ → List ℤ → Outcome BoardKinds
added_from J item kinds [] marks errors = accepted kinds
added_from J item kinds (value ∷ later) marks errors =
    after (λ more. added_from J (suc item) more later (drop 1 marks) (drop 1 errors)) (line_added J item kinds (get_or marks 0 0) value (get_or errors 0 (pos 0)))

abbrev pub no_sums : BoardSums
no_sums = record { full = 0; sampled = 0; m = 0 }

abbrev pub no_kinds : BoardKinds
no_kinds = record { over = no_sums; under = no_sums }

-- the answer, from the sums of each kind: the net is what is overstated less what is understated
abbrev pub board_projection_of : BoardSums → BoardSums → BoardProjection
board_projection_of over under =
    record {
      full = over.full;
      sampled = over.sampled;
      m = over.m;
      under_full = under.full;
      under_sampled = under.sampled;
      net = pos (over.full + over.sampled) -ℤ pos (under.full + under.sampled);
    }

-- by the marks at an interval and a start
unfoldable pub board_projection_at : ℕ → ℕ → List ℕ → List ℤ → Outcome BoardProjection
board_projection_at J start ledger errors =
    after (λ kinds. accepted (board_projection_of kinds.over kinds.under)) (added_from J 0 no_kinds ledger (board_marks J start ledger) errors)

abbrev pub board_projected_by : List ℕ → ℕ → List ℤ → Figures → Outcome BoardProjection
board_projected_by ledger start errors figures = board_projection_at figures.interval start ledger errors

-- after the refusals of the draw: the errors stand beside the ledger
unfoldable pub board_project_of : List ℕ → ℕ → ℕ → List ℤ → Outcome BoardProjection
board_project_of ledger n start errors = after (board_projected_by ledger start errors) (board_figures ledger n start (length errors))

-- what `board_project` promises
pub record BoardProjectPromise (ledger : List ℕ) (n start : ℕ) (errors : List ℤ) (r : Result BoardProjection Refusal) : Type 0 where
  pub answer : says r ≡ board_project_of ledger n start errors
