-- From the split's answer to those of the walk, as the code meets it, and which refusals are given. Assumes nothing.
use mathlib.Core.Path.{◌≡◌, sym, ap, ◌∙◌}
use mathlib.Core.List.{List}
use Prim.Native.Nat.{ℕ, ◌≤◌}
use native.Mathlib.Omega.{arith}
use borrow.Author.Tests.{eqb-true, ltb-true}
use lib.Dec.{ltb, eqb}
use lib.IntN.{ℤ}
use lib.ListN.{length}
use Rattle.terms.specs.Outcome.{accepted}
use Rattle.terms.proofs.Outcomes.{never, after_accepted}
use Rattle.terms.proofs.Tests.{by_test}
use Rattle.split.specs.declared.Figures.{Figures}
use Rattle.split.specs.Split.{split_of, full_marks}
use Rattle.split.proofs.Facts.{SplitFacts, split_facts}
use Rattle.blackboard.specs.Board.{points_of, marked, board_marks, drawn_lines}
use Rattle.blackboard.specs.Draw.{walk_start, board_figures}
use Rattle.blackboard.specs.Steps.{OnBoard, BoardMarked, ToAdd}

-- what accepted figures give
pub record BoardFacts (ledger : List ℕ) (n start beside : ℕ) (f : Figures) : Type 0 where
  pub facts : SplitFacts ledger n beside f
  pub early : start ≤ f.interval

pub board_facts : (ledger : List ℕ) (n start beside : ℕ) (f : Figures) → board_figures ledger n start beside ≡ accepted f → BoardFacts ledger n start beside f
unfolding board_figures
board_facts ledger n start beside f e =
    let a = after_accepted (walk_start start) (split_of ledger n beside) f e in
    let known : (accepted a.0 ≡ accepted f) → (start ≤ a.0.interval) → BoardFacts ledger n start beside f =
    λ h early. let same : a.0 ≡ f = cc in
    rw (← same) (record { facts = split_facts ledger n beside a.0 a.1; early = early }) in
    by_test (λ o. o ≡ accepted f → BoardFacts ledger n start beside f) (eqb start 0) (λ t h. known h (omega (arith, eqb-true start 0 t)))
    (λ t. by_test (λ o. o ≡ accepted f → BoardFacts ledger n start beside f) (ltb start a.0.interval) (λ q h. known h (omega (arith, ltb-true start a.0.interval q))) (λ q h. never h))
    a.2

-- what the walk asks
module _ (ledger : List ℕ) (n start beside : ℕ) {f : Figures} (e : accepted f ≡ board_figures ledger n start beside) where
  known : BoardFacts ledger n start beside f
  known = board_facts ledger n start beside f (sym e)

  pub on_board : OnBoard f.interval ledger
  on_board = record { summed = known.facts.ledger_good.most; narrow = known.facts.most }

  pub beside_same : beside ≡ length ledger
  beside_same = known.facts.ledger_good.same

pub to_add : (ledger : List ℕ) (n start : ℕ) (errors : List ℤ) {f : Figures} → accepted f ≡ board_figures ledger n start (length errors) → ToAdd f.interval start ledger errors
to_add ledger n start errors e =
    let k = known ledger n start (length errors) e in
    record { board = on_board ledger n start (length errors) e; few = k.facts.ledger_good.few; same = k.facts.ledger_good.same; early = k.early }

-- the marks: first those of the split, and then those of the points
pub lines_marked : {J start : ℕ} {ledger first last : List ℕ} {drawn : ℕ} → first ≡ full_marks J ledger → last ≡ marked J ledger (points_of J start ledger) first →
    drawn ≡ drawn_lines last → BoardMarked J start ledger drawn last
unfolding board_marks
lines_marked {J} {start} {ledger} e d counted =
    let m = d ∙ ap (marked J ledger (points_of J start ledger)) e in
    record { marks = m; count = counted ∙ ap drawn_lines m }
