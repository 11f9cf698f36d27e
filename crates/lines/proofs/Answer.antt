-- From the figures for a start and the lines' check to the answer and the amounts. Assumes nothing.
use mathlib.Core.Path.{◌≡◌, sym, ap, ◌∙◌}
use Rattle.std.specs.Prelude.{Ok, Err}
use mathlib.Core.List.{List}
use Prim.Native.Nat.{ℕ}
use native.Mathlib.Omega.{arith}
use lib.IntN.{ℤ, pos}
use lib.ListN.{length, get_or}
use Rattle.terms.specs.declared.Refusal.{Refusal}
use Rattle.terms.specs.Outcome.{Outcome, accepted, refused_by, after, left}
use Rattle.signed.specs.declared.Part.TheVariants.{Size}
use Rattle.signed.specs.Parts.{parts}
use Rattle.signed.proofs.Laws.{part_is_size, parts_at}
use Rattle.split.specs.declared.Figures.{Figures}
use Rattle.split.specs.Start.{figures_for}
use Rattle.split.proofs.Start.{start_facts}
use Rattle.project.specs.declared.Projection.{Projection}
use Rattle.project.specs.Project.{checked_lines, lines_with, projection_at, projected_by, Ready}
use Rattle.project.proofs.Laws.{projection_refused, ProjectedFacts, projected_facts, ready}
use Rattle.lines.specs.Each.{amounts_with, length_beside, lines_for, project_lines_of, Writable, LinesPromise}
use Rattle.lines.proofs.Beside.{beside_same}

-- the lines, and their projection, are what follows from the figures for a start
module _ (ledger : List ℕ) (n start : ℕ) (errors : List ℤ) (beside : ℕ) where
  pub lines_from_lem : {o : Outcome Figures} → o ≡ figures_for ledger n start beside → after (λ f. checked_lines 0 f.interval start ledger (parts Size errors)) o ≡ lines_for ledger n start errors beside
  unfolding lines_for
  lines_from_lem e = ap (after (λ f. checked_lines 0 f.interval start ledger (parts Size errors))) e

  pub projection_from : {o : Outcome Figures} → o ≡ figures_for ledger n start beside → after (projected_by ledger start errors) o ≡ project_lines_of ledger n start errors beside
  unfolding project_lines_of
  projection_from e = ap (after (projected_by ledger start errors)) e

-- where the figures for the start are refused
module _ (ledger : List ℕ) (n start : ℕ) (errors amounts : List ℤ) (beside : ℕ) (is : beside ≡ length_beside (length ledger) (length errors) (length amounts)) where
  pub lines_not_started : (why : Refusal) → refused_by why ≡ figures_for ledger n start beside → LinesPromise ledger n start errors amounts (Err why) amounts
  lines_not_started why told =
      let e : refused_by why ≡ figures_for ledger n start (length_beside (length ledger) (length errors) (length amounts)) = told ∙ ap (figures_for ledger n start) is in
      record { answer = projection_from ledger n start errors _ e; amounts_left = ap (left (amounts_with errors) amounts) (lines_from_lem ledger n start errors _ e) }

-- where they are accepted
module _ (ledger : List ℕ) (n start : ℕ) (errors amounts : List ℤ) (beside : ℕ) (f : Figures) (is : beside ≡ length_beside (length ledger) (length errors) (length amounts))
    (told : accepted f ≡ figures_for ledger n start beside) where
  figures_are : accepted f ≡ figures_for ledger n start (length_beside (length ledger) (length errors) (length amounts))
  figures_are = told ∙ ap (figures_for ledger n start) is

  judged_same : length_beside (length ledger) (length errors) (length amounts) ≡ length ledger
  judged_same = (start_facts ledger n start _ f (sym figures_are)).facts.ledger_good.same

  pub lines_ready : Ready 0 f.interval start ledger errors
  lines_ready =
      let same = beside_same (length ledger) (length errors) (length amounts) judged_same in
      ready ledger n start errors f (ap (figures_for ledger n start) (same.0 ∙ sym judged_same) ∙ sym figures_are)

  -- the projection is refused, and so are the lines
  pub lines_refused : (why : Refusal) → refused_by why ≡ projection_at 0 f.interval start ledger errors → LinesPromise ledger n start errors amounts (Err why) amounts
  lines_refused why e =
      record {
        answer = e ∙ projection_from ledger n start errors _ figures_are;
        amounts_left =
            ap (left (amounts_with errors) amounts) (sym (projection_refused 0 f.interval start ledger errors e))
            ∙ ap (left (amounts_with errors) amounts) (lines_from_lem ledger n start errors _ figures_are);
      }

  -- or it is told, and every line has passed
  module _ (sums : Projection) (e : accepted sums ≡ projection_at 0 f.interval start ledger errors) where
    known : ProjectedFacts 0 f.interval start ledger errors sums
    known = projected_facts 0 f.interval start ledger errors sums lines_ready.early (sym e)

    pub lines_writable : Writable f.interval ledger errors amounts
    lines_writable =
        let at = lines_ready in
        record {
          narrow = at.narrow;
          errors_same = at.same;
          amounts_same = (beside_same (length ledger) (length errors) (length amounts) judged_same).1;
          within = λ item more. omega (arith, (known.facts Size).within item more, parts_at Size errors item, part_is_size (get_or errors item (pos 0)));
        }

    pub lines_projected : {amounts' : List ℤ} → amounts' ≡ amounts_with errors (lines_with Size f.interval start ledger errors) → LinesPromise ledger n start errors amounts (Ok sums) amounts'
    lines_projected written =
        record {
          answer = e ∙ projection_from ledger n start errors _ figures_are;
          amounts_left =
              written ∙ ap (left (amounts_with errors) amounts) (sym (known.lines Size))
              ∙ ap (left (amounts_with errors) amounts) (lines_from_lem ledger n start errors _ figures_are);
        }
