-- The promises of both operations leave no freedom: what an answer says makes the answer. Assumes nothing.
use mathlib.Core.Path.{◌≡◌, sym, ◌∙◌}
use mathlib.Core.List.{List}
use Prim.Native.Nat.{ℕ}
use lib.IntN.{ℤ}
use Rattle.std.specs.Prelude.{Result}
use Rattle.terms.specs.declared.Refusal.{Refusal}
use Rattle.terms.proofs.Answers.{says_once}
use Rattle.blackboard.specs.declared.BoardProjection.{BoardProjection}
use Rattle.blackboard.specs.Draw.{BoardDrawPromise}
use Rattle.blackboard.specs.Project.{BoardProjectPromise}

pub board_draw_once : (ledger : List ℕ) (n start : ℕ) (marks : List ℕ) (r s : Result ℕ Refusal) (b c : List ℕ) →
    BoardDrawPromise ledger n start marks r b → BoardDrawPromise ledger n start marks s c → (r ≡ s) × (b ≡ c)
board_draw_once ledger n start marks r s b c p q = (says_once r s p.answer q.answer, p.marks_left ∙ sym q.marks_left)

pub board_project_once : (ledger : List ℕ) (n start : ℕ) (errors : List ℤ) (r s : Result BoardProjection Refusal) →
    BoardProjectPromise ledger n start errors r → BoardProjectPromise ledger n start errors s → r ≡ s
board_project_once ledger n start errors r s p q = says_once r s p.answer q.answer
