-- What a batch posts by the marks of a draw is what the projection takes, of every ledger, n and start. Assumes nothing.
use Prim.Native.Nat.{ℕ, ◌<◌}
use Rattle.terms.specs.declared.Refusal.{Refusal}
use Rattle.std.specs.Prelude.{Result, Ok}
use native.Mathlib.Omega.{arith}
use mathlib.Core.Path.{◌≡◌, refl, sym, ap, subst, ◌∙◌}
use mathlib.Core.List.{List}
use lib.IntN.{ℤ, pos}
use lib.ListN.{length, get_or}
use Rattle.terms.specs.Outcome.{Outcome, accepted, refused}
use Rattle.terms.proofs.Outcomes.{after_accepted}
use Rattle.signed.specs.declared.Part.TheVariants.{Size}
use Rattle.signed.specs.Errors.{size_of}
use Rattle.signed.specs.Parts.{parts}
use Rattle.signed.proofs.Laws.{parts_at, part_is_size, size_none}
use Rattle.split.specs.declared.Figures.{Figures}
use Rattle.split.specs.Start.{figures_for}
use Rattle.split.proofs.Start.{start_facts}
use Rattle.draw.specs.Row.{marks_from, draw_marks}
use Rattle.draw.specs.Draw.{DrawPromise}
use Rattle.draw.proofs.Laws.{draw_marks_lem, marks_length, marks_started, draw_accepted}
use Rattle.project.specs.declared.{Projection.Projection}
use Rattle.project.specs.Lines.{lines_from}
use Rattle.project.specs.Project.{checked_from, checked_lines, both_kinds, projection_at, project_of}
use Rattle.project.proofs.Lines.{lines_of_lem}
use Rattle.project.proofs.Laws.{checked_of, projection_refused, project_from, project_facts}
use Rattle.findings.specs.Findings as findings
use Rattle.findings.specs.Batch.{PostAllPromise}
use Rattle.findings.proofs.Rules.{placed_none}
use Rattle.findings.proofs.Standing.{Standing}
use Rattle.findings.proofs.Laws.{batch_stands, batch_keeps, batch_long}
use Rattle.findings.proofs.Stopping.{accepted_postable}
use Rattle.demands.specs.Findings.{FindingsProjected}
use Rattle.demands.proofs.Passing.{Passes, fault, each_passes}

-- at an interval and a start, beside the marks of the draw there
module _ (J start : ℕ) (ledger : List ℕ) (errors : List ℤ) where
  abbrev sizes : List ℕ
  sizes = parts Size errors

  size_at : (line : ℕ) → get_or (parts Size errors) line 0 ≡ size_of (get_or errors line (pos 0))
  size_at line = parts_at Size errors line ∙ part_is_size (get_or errors line (pos 0))

  standing_passes : (line : ℕ) → Standing ledger (draw_marks J start ledger) errors line → Passes (get_or ledger line 0) (get_or (marks_from J start 0 ledger) line 0) (get_or (parts Size errors) line 0)
  standing_passes line at =
      record {
        within = omega (arith, size_at line, at.within);
        marked = (λ i. findings.misplaced (get_or (sym (draw_marks_lem J start ledger) i) line 0) (size_at line i)) ∙ at.marked;
      }

  passes_standing : (line : ℕ) → line < length ledger → Passes (get_or ledger line 0) (get_or (marks_from J start 0 ledger) line 0) (get_or (parts Size errors) line 0) →
      Standing ledger (draw_marks J start ledger) errors line
  passes_standing line inside h =
      record {
        inside = inside;
        within = omega (arith, size_at line, h.within);
        marked = (λ i. findings.misplaced (get_or (draw_marks_lem J start ledger i) line 0) (sym (size_at line) i)) ∙ h.marked;
      }

  lines_are : checked_lines 0 J start ledger (parts Size errors) ≡ checked_from 0 (lines_from J start 0 ledger (parts Size errors))
  lines_are = checked_of 0 J start ledger (parts Size errors) ∙ ap (checked_from 0) (lines_of_lem J start ledger (parts Size errors))

  -- a refused projection names a line on which what is entered may not stand
  refused_not : (n p : ℕ) → projection_at 0 J start ledger errors ≡ refused n p → (p < length ledger) × ¬ (Standing ledger (draw_marks J start ledger) errors p)
  refused_not n p e =
      let f = fault J start 0 0 ledger (parts Size errors) n p (sym lines_are ∙ projection_refused 0 J start ledger errors (sym e)) in
      let same : p ≡ f.line = omega (arith, f.counted) in
      (omega (arith, same, f.inside), λ at. f.broken (standing_passes f.line (subst (Standing ledger (draw_marks J start ledger) errors) same at)))

  -- an accepted one has on each line what may stand there
  accepted_all : (p : Projection) → projection_at 0 J start ledger errors ≡ accepted p → (line : ℕ) → line < length ledger → Standing ledger (draw_marks J start ledger) errors line
  unfolding projection_at
  accepted_all p e line h =
      let a = after_accepted (λ lines. accepted (both_kinds J start ledger errors)) (checked_lines 0 J start ledger (parts Size errors)) p e in
      passes_standing line h (each_passes J start 0 0 ledger (parts Size errors) a.0 (sym lines_are ∙ a.1) line h)

  -- and where each line has that, it is accepted
  all_accepted : ((line : ℕ) → line < length ledger → Standing ledger (draw_marks J start ledger) errors line) → (p : Projection) × (projection_at 0 J start ledger errors ≡ accepted p)
  all_accepted all = by (projection_at 0 J start ledger errors) refl
    where
      by : (o : Outcome Projection) → projection_at 0 J start ledger errors ≡ o → (p : Projection) × (projection_at 0 J start ledger errors ≡ accepted p)
      by (accepted p) e = (p, e)
      by (refused n p) e = let f = refused_not n p e in absurd (f.1 (all p f.0))

-- after a draw
module _ (ledger : List ℕ) (n start : ℕ) (former : List ℕ) (drawn : ℕ) (marks : List ℕ) (promise : DrawPromise ledger n start former (Ok drawn) marks) where
  started : (f : Figures) × (figures_for ledger n start (length former) ≡ accepted f)
  started = draw_accepted ledger n start (length former) drawn (sym promise.answer)

  abbrev J : ℕ
  J = started.0.interval

  marks_are : marks ≡ draw_marks J start ledger
  marks_are = promise.marks_left ∙ marks_started ledger n start (length former) started.0 started.1 former

  former_same : length former ≡ length ledger
  former_same = (start_facts ledger n start (length former) started.0 started.1).facts.ledger_good.same

  marks_same : length marks ≡ length ledger
  marks_same = ap length (marks_are ∙ draw_marks_lem J start ledger) ∙ marks_length J start 0 ledger

  -- the projection of as many errors is the one at the draw's interval
  at_interval : (errors : List ℤ) → length errors ≡ length ledger → projection_at 0 J start ledger errors ≡ project_of ledger n start errors
  at_interval errors same = project_from ledger n start errors (sym started.1 ∙ ap (figures_for ledger n start) (former_same ∙ sym same))

  abbrev Fine : List ℤ → ℕ → Type 0
  Fine errors line = Standing ledger (draw_marks J start ledger) errors line

  fine : (errors : List ℤ) (line : ℕ) → Standing ledger marks errors line → Fine errors line
  fine errors line at = subst (λ (m : List ℕ). Standing ledger m errors line) marks_are at

  coarse : (errors : List ℤ) (line : ℕ) → Fine errors line → Standing ledger marks errors line
  coarse errors line at = subst (λ (m : List ℕ). Standing ledger m errors line) (sym marks_are) at

  projected : (errors : List ℤ) → length errors ≡ length ledger → ((line : ℕ) → line < length ledger → Fine errors line) → (p : Projection) × (project_of ledger n start errors ≡ accepted p)
  projected errors same all = let p = all_accepted J start ledger errors all in (p.0, sym (at_interval errors same) ∙ p.1)

  no_line : (errors : List ℤ) (lines : List ℕ) (found : List ℤ) (pairs : ℕ) (errors' : List ℤ) → PostAllPromise ledger marks errors lines found (Ok pairs) errors' →
      (position number : ℕ) → position < length lines → ¬ (project_of ledger n start errors' ≡ refused number (get_or lines position 0))
  no_line errors lines found pairs errors' posted position number h e =
      let says = sym posted.answer in
      let p = accepted_postable ledger marks errors lines found pairs says in
      let same = ap length posted.errors_left ∙ batch_long ledger marks errors lines found ∙ p.errors_same in
      let at : Standing ledger marks errors' (get_or lines position 0) =
      subst (λ (l : List ℤ). Standing ledger marks l (get_or lines position 0)) (sym posted.errors_left) (batch_stands ledger marks marks_same errors lines found pairs says position h) in
      (refused_not J start ledger errors' number (get_or lines position 0) (at_interval errors' same ∙ e)).1 (fine errors' (get_or lines position 0) at)

  from_none : (errors : List ℤ) → length errors ≡ length ledger → ((line : ℕ) → get_or errors line (pos 0) ≡ pos 0) → (p : Projection) × (project_of ledger n start errors ≡ accepted p)
  from_none errors same none =
      projected errors same
      (λ line inside.
      let zero_is : size_of (get_or errors line (pos 0)) ≡ 0 = ap size_of (none line) ∙ size_none in
      record { inside = inside; within = omega (arith, zero_is); marked = sym (placed_none (get_or (draw_marks J start ledger) line 0) (size_of (get_or errors line (pos 0))) zero_is) })

  kept_by : (errors : List ℤ) (lines : List ℕ) (found : List ℤ) (r : Result ℕ Refusal) (errors' : List ℤ) → PostAllPromise ledger marks errors lines found r errors' →
      (p : Projection) → project_of ledger n start errors ≡ accepted p → (q : Projection) × (project_of ledger n start errors' ≡ accepted q)
  kept_by errors lines found r errors' posted p e =
      let same = (project_facts ledger n start errors p e).started.facts.ledger_good.same in
      projected errors' (ap length posted.errors_left ∙ batch_long ledger marks errors lines found ∙ same)
      (λ line inside.
      fine errors' line
      (subst (λ (l : List ℤ). Standing ledger marks l line) (sym posted.errors_left)
      (batch_keeps ledger marks marks_same errors lines found line (coarse errors line (accepted_all J start ledger errors p (at_interval errors same ∙ e) line inside)))))

pub findings_projected : FindingsProjected
findings_projected ledger n start former drawn marks promise =
    record {
      posted = no_line ledger n start former drawn marks promise;
      none = from_none ledger n start former drawn marks promise;
      kept = kept_by ledger n start former drawn marks promise;
    }
