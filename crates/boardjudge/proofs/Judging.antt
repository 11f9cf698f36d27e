-- From the walk's projection and its amounts to the judgement: what the walk gives is what the first method gathers. Assumes nothing.
use Prim.Native.Nat.{ℕ}
use Rattle.std.specs.Prelude.{Result, Ok}
use Rattle.judge.specs.declared.Judgement.{Judgement}
use native.Mathlib.Omega.{arith}
use mathlib.Core.Path.{◌≡◌, refl, sym, ap, ◌∙◌}
use mathlib.Core.List.{List, []}
use lib.IntN.{ℤ}
use lib.ListN.{length, take}
use Rattle.terms.specs.declared.Refusal.{Refusal}
use Rattle.terms.specs.Outcome.{Outcome, accepted, refused_by, says}
use Rattle.terms.specs.Limits.{most_errors}
use Rattle.factors.specs.declared.Level.{Level}
use Rattle.signed.specs.declared.Part.TheVariants.{Overstated, Size}
use Rattle.project.specs.declared.Projection.{Projection}
use Rattle.project.specs.Project.{lines_with, projection_at, Ready}
use Rattle.project.specs.Gather.{kept_from, kept_of, GatherPromise}
use Rattle.project.proofs.Laws.{ProjectedFacts, projected_facts}
use Rattle.project.proofs.Kept.{kept_whole}
use Rattle.judge.specs.Judge.{judged_with, judged_at, Concludable}
use Rattle.judge.proofs.Amounts.{lines_refused, gathered_concludable, gathered_judged}
use Rattle.blackboard.specs.declared.{BoardProjection.BoardProjection}
use Rattle.blackboard.specs.Project.{board_projection_at}
use Rattle.blackboard.specs.Steps.{ToAdd}
use Rattle.sameboard.specs.Same.{as_projection, as_projected}
use Rattle.sameboard.proofs.Sums.{same_projection}
use Rattle.boardjudge.specs.Marked.{Walkable}

pub to_add : {J start : ℕ} {ledger : List ℕ} {errors : List ℤ} → Ready 0 J start ledger errors → ToAdd J start ledger errors
to_add ready =
    record { board = record { summed = ready.summed; narrow = ready.narrow }; few = omega (arith, ready.few); same = ready.same; early = ready.early }

module _ (level : Level) (ledger : List ℕ) (start : ℕ) (errors : List ℤ) (te J : ℕ) where
  answer : {o : Outcome BoardProjection} → o ≡ board_projection_at J start ledger errors → as_projected o ≡ projection_at 0 J start ledger errors
  answer walked = ap as_projected walked ∙ same_projection J start ledger errors

  pub board_refused : (why : Refusal) → refused_by why ≡ board_projection_at J start ledger errors → refused_by why ≡ judged_at level ledger start errors te J
  board_refused why walked =
      lines_refused level ledger start errors te J [] (kept_of 0 J start ledger errors []) why (record { answer = answer walked; amounts_left = refl })

  module _ (p : BoardProjection) (walked : accepted p ≡ board_projection_at J start ledger errors) (ready : Ready 0 J start ledger errors) where
    facts : ProjectedFacts 0 J start ledger errors (as_projection p)
    facts = projected_facts 0 J start ledger errors (as_projection p) ready.early (sym (answer walked))

    pub walkable : Walkable J start ledger errors
    walkable = record { given = to_add ready; within = (facts.facts Size).within }

    module _ (before kept : List ℕ) (room : length before ≡ most_errors) (collected : kept ≡ kept_from (lines_with Overstated J start ledger errors) 0 before)
        (q : Projection) (is : q ≡ as_projection p) where
      gathered : GatherPromise 0 J start ledger errors before (Ok q) kept
      gathered =
          record { answer = ap accepted is ∙ answer walked; amounts_left = collected ∙ sym (kept_whole 0 J start ledger errors before _ (facts.lines Size)) }

      pub board_concludable : Concludable J q kept
      board_concludable = gathered_concludable level ledger start errors te J before kept q gathered ready room

      pub board_judged : (r : Result Judgement Refusal) → says r ≡ judged_with level te J q (take q.m kept) → says r ≡ judged_at level ledger start errors te J
      board_judged = gathered_judged level ledger start errors te J before kept q gathered ready room
