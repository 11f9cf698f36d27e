-- The theorem: on every input both methods give the same marks, sums, counts and refusals; so what an operation of the blackboard promises is what the
-- first method's promises. Assumes nothing.
use Prim.Native.Nat.{ℕ, ◌≤◌, ◌<◌}
use Rattle.terms.specs.declared.Refusal.{Refusal}
use Rattle.std.specs.Prelude.{Result, Ok, Err}
use native.Mathlib.Nat.{eq-zero-or-pos}
use native.Mathlib.Omega.{arith}
use mathlib.Core.Path.{◌≡◌, refl, ap, ◌∙◌}
use mathlib.Core.List.{List}
use mathlib.Core.Logic.{⊎_elim}
use borrow.Author.Tests.{eq-eqb, ne_eqb, le-ltb, lt-ltb}
use lib.IntN.{ℤ}
use lib.ListN.{length}
use Rattle.terms.specs.Outcome.{Outcome, accepted, refused, after, left, says}
use Rattle.split.specs.declared.Figures.{Figures}
use Rattle.split.specs.Split.{split_of}
use Rattle.split.specs.Start.{start_in, figures_for}
use Rattle.draw.specs.Row.{ones}
use Rattle.draw.specs.Draw.{marks_at, draw_of, DrawPromise}
use Rattle.project.specs.declared.Projection.{Projection}
use Rattle.project.specs.Project.{projected_by, project_of, ProjectPromise}
use Rattle.blackboard.specs.declared.{BoardProjection.BoardProjection}
use Rattle.blackboard.specs.Board.{drawn_lines}
use Rattle.blackboard.specs.Draw.{walk_start, board_figures, board_marks_at, board_draw_of, BoardDrawPromise}
use Rattle.blackboard.specs.Project.{board_projected_by, board_project_of, BoardProjectPromise}
use Rattle.sameboard.specs.Same.{as_projected, SameAnswers, as_project}
use Rattle.sameboard.proofs.Marks.{same_marks, same_count}
use Rattle.sameboard.proofs.Sums.{same_projection}

-- what follows from an outcome is the same where the same follows from what is accepted
after_same : {A B : Type 0} (f g : A → Outcome B) → ((a : A) → f a ≡ g a) → (o : Outcome A) → after f o ≡ after g o
after_same f g same (accepted a) = same a
after_same f g same (refused n p) = refl

left_same : {A B : Type 0} (f g : A → B) → ((a : A) → f a ≡ g a) → (before : B) (o : Outcome A) → left f before o ≡ left g before o
left_same f g same before (accepted a) = same a
left_same f g same before (refused n p) = refl

projected_same : (f : Figures → Outcome BoardProjection) (g : Figures → Outcome Projection) → ((a : Figures) → as_projected (f a) ≡ g a) → (o : Outcome Figures) → as_projected (after f o) ≡ after g o
projected_same f g same (accepted a) = same a
projected_same f g same (refused n p) = refl

-- 11 is given for the same starts
start_same : (start : ℕ) (f : Figures) → walk_start start f ≡ start_in start f
start_same start f =
    ⊎_elim
    (λ (none : f.interval ≡ 0). ⊎_elim
    (λ (z : start ≡ 0). simp (eq-eqb start 0 z, eq-eqb f.interval 0 none))
    (λ (p : 0 < start). let late : start ≡ 0 → ⊥ = λ z. omega arith in
    let past : f.interval ≤ start = omega arith in
    simp (ne_eqb start 0 late, eq-eqb f.interval 0 none, le-ltb start f.interval past))
    (eq-zero-or-pos start))
    (λ (some : 0 < f.interval). let there : f.interval ≡ 0 → ⊥ = λ z. omega arith in
    ⊎_elim
    (λ (z : start ≡ 0). let first : start < f.interval = omega arith in simp (eq-eqb start 0 z, ne_eqb f.interval 0 there, lt-ltb start f.interval first))
    (λ (p : 0 < start). let late : start ≡ 0 → ⊥ = λ z. omega arith in simp (ne_eqb start 0 late, ne_eqb f.interval 0 there))
    (eq-zero-or-pos start))
    (eq-zero-or-pos f.interval)

module _ (ledger : List ℕ) (n start beside : ℕ) where
  pub figures_same : board_figures ledger n start beside ≡ figures_for ledger n start beside
  unfolding board_figures figures_for
  figures_same = after_same (walk_start start) (start_in start) (start_same start) (split_of ledger n beside)

  pub draw_same : board_draw_of ledger n start beside ≡ draw_of ledger n start beside
  unfolding board_draw_of draw_of
  draw_same =
      ap (after (λ f. accepted (drawn_lines (board_marks_at ledger start f)))) figures_same
      ∙ after_same (λ f. accepted (drawn_lines (board_marks_at ledger start f))) (λ f. accepted (ones (marks_at ledger start f)))
      (λ f. ap accepted (same_count (board_marks_at ledger start f) ∙ ap ones (same_marks f.interval start ledger))) (figures_for ledger n start beside)

pub marks_same : (ledger : List ℕ) (n start : ℕ) (marks : List ℕ) →
    left (board_marks_at ledger start) marks (board_figures ledger n start (length marks)) ≡ left (marks_at ledger start) marks (figures_for ledger n start (length marks))
marks_same ledger n start marks =
    ap (left (board_marks_at ledger start) marks) (figures_same ledger n start (length marks))
    ∙ left_same (board_marks_at ledger start) (marks_at ledger start) (λ (f : Figures). same_marks f.interval start ledger) marks (figures_for ledger n start (length marks))

pub project_same : (ledger : List ℕ) (n start : ℕ) (errors : List ℤ) → as_projected (board_project_of ledger n start errors) ≡ project_of ledger n start errors
unfolding board_project_of project_of
project_same ledger n start errors =
    ap (λ (o : Outcome Figures). as_projected (after (board_projected_by ledger start errors) o)) (figures_same ledger n start (length errors))
    ∙ projected_same (board_projected_by ledger start errors) (projected_by ledger start errors) (λ f. same_projection f.interval start ledger errors) (figures_for ledger n start (length errors))

pub same_answers : (ledger : List ℕ) (n start : ℕ) (marks : List ℕ) (errors : List ℤ) → SameAnswers ledger n start marks errors
same_answers ledger n start marks errors =
    record { drawn = draw_same ledger n start (length marks); marked = marks_same ledger n start marks; projected = project_same ledger n start errors }

-- what an answer says, as the first method's answer says it
pub says_project : (r : Result BoardProjection Refusal) → says (as_project r) ≡ as_projected (says r)
says_project (Ok projection) = refl
says_project (Err why) = refl

-- so an operation of the blackboard keeps the promise of the first method's
pub board_draws : (ledger : List ℕ) (n start : ℕ) (marks : List ℕ) (r : Result ℕ Refusal) (marks' : List ℕ) → BoardDrawPromise ledger n start marks r marks' →
    DrawPromise ledger n start marks r marks'
board_draws ledger n start marks r marks' p =
    record { answer = p.answer ∙ draw_same ledger n start (length marks); marks_left = p.marks_left ∙ marks_same ledger n start marks }

pub board_projects : (ledger : List ℕ) (n start : ℕ) (errors : List ℤ) (r : Result BoardProjection Refusal) → BoardProjectPromise ledger n start errors r → ProjectPromise ledger n start errors (as_project r)
board_projects ledger n start errors r p = record { answer = says_project r ∙ ap as_projected p.answer ∙ project_same ledger n start errors }
