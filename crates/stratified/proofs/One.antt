-- One stratum is the plain draw and the plain projection at its start, refusals and all. Assumes nothing.
use mathlib.Core.Path.{◌≡◌, refl, sym, ap, ◌∙◌}
use mathlib.Core.Bool.{Bool, true, false}
use mathlib.Core.List.{List, [], ◌∷◌, append-nil}
use Prim.Native.Nat.{ℕ}
use native.Mathlib.Omega.{arith}
use lib.Dec.{eqb}
use lib.IntN.{ℤ}
use lib.ListN.{length}
use lib.Seq.{take_all}
use Rattle.terms.specs.Outcome.{Outcome, accepted, refused, after, left}
use Rattle.terms.specs.Numbers.{pick}
use Rattle.split.specs.declared.Figures.{Figures}
use Rattle.split.specs.Split.{split_of}
use Rattle.split.specs.Start.{start_fits, start_in, figures_for}
use Rattle.split.proofs.Start.{from_split, start_facts}
use Rattle.draw.specs.Row.{draw_marks, ones}
use Rattle.draw.specs.Draw.{marks_at, draw_of}
use Rattle.project.specs.declared.Projection.{Projection}
use Rattle.project.specs.Project.{projection_at}
use Rattle.strata.specs.Strata.{parts_of, plan_of}
use Rattle.strata.specs.Starts.{starts_from, rows_started, started_of}
use Rattle.strata.proofs.One.{one_row, one_part, one_split}
use Rattle.stratified.specs.declared.projection.ProjectionRow.{ProjectionRow}
use Rattle.stratified.specs.Marks.{strata_marks, draw_strata_of}
use Rattle.stratified.specs.Projection.{projection_row, projected_from, project_strata_of}

-- a step after another, from a step after it
after_after : {A B C : Type 0} (f : A → Outcome B) (g : B → Outcome C) (o : Outcome A) → after g (after f o) ≡ after (λ a. after g (f a)) o
after_after f g (accepted a) = refl
after_after f g (refused number place) = refl

-- two steps that agree where the first is accepted
after_alike : {A B : Type 0} (f g : A → Outcome B) (o : Outcome A) → ((a : A) → o ≡ accepted a → f a ≡ g a) → after f o ≡ after g o
after_alike f g (accepted a) same = same a refl
after_alike f g (refused number place) same = refl

module _ (ledger : List ℕ) (n start : ℕ) where
  -- the starts of one stratum are the plain start
  one_agrees : (b : Bool) → pick b true false ≡ b
  one_agrees true = refl
  one_agrees false = refl

  one_start : (f : Figures) → rows_started (start ∷ []) (one_row n f) ≡ after (λ g. accepted (one_row n g)) (start_in start f)
  unfolding starts_from
  one_start f = go (start_fits start f.interval)
    where
      go : (b : Bool) → after (λ (strata : ℕ). accepted (one_row n f)) (pick b (accepted 1) (refused 11 0)) ≡ after (λ g. accepted (one_row n g)) (pick b (accepted f) (refused 11 0))
      go true = refl
      go false = refl

  one_started : (beside : ℕ) → started_of ledger (length ledger ∷ []) n (start ∷ []) beside ≡ after (λ f. accepted (one_row n f)) (figures_for ledger n start beside)
  unfolding started_of
  one_started beside =
      ap (λ (b : Bool). after (rows_started (start ∷ [])) (plan_of ledger (length ledger ∷ []) n b)) (one_agrees (eqb beside (length ledger)))
      ∙ ap (after (rows_started (start ∷ []))) (one_split ledger n beside)
      ∙ after_after (λ f. accepted (one_row n f)) (rows_started (start ∷ [])) (split_of ledger n beside)
      ∙ after_alike (λ f. rows_started (start ∷ []) (one_row n f)) (λ f. after (λ g. accepted (one_row n g)) (start_in start f)) (split_of ledger n beside) (λ f e. one_start f)
      ∙ sym (after_after (start_in start) (λ g. accepted (one_row n g)) (split_of ledger n beside))
      ∙ ap (after (λ g. accepted (one_row n g))) (from_split ledger n start beside refl)

  one_marks_of : (f : Figures) → strata_marks (parts_of (length ledger ∷ []) ledger) (one_row n f) (start ∷ []) ≡ marks_at ledger start f
  unfolding strata_marks
  one_marks_of f = ap (λ (parts : List (List ℕ)). strata_marks parts (one_row n f) (start ∷ [])) (one_part ledger n) ∙ append-nil (draw_marks f.interval start ledger)

  -- the draw's answer
  pub one_draw : (beside : ℕ) → draw_strata_of ledger (length ledger ∷ []) n (start ∷ []) beside ≡ draw_of ledger n start beside
  unfolding draw_strata_of draw_of
  one_draw beside =
      let counts : List ℕ = length ledger ∷ [] in
      ap (after (λ rows. accepted (ones (strata_marks (parts_of counts ledger) rows (start ∷ []))))) (one_started beside)
      ∙ after_after (λ f. accepted (one_row n f)) (λ rows. accepted (ones (strata_marks (parts_of counts ledger) rows (start ∷ [])))) (figures_for ledger n start beside)
      ∙ after_alike (λ f. accepted (ones (strata_marks (parts_of counts ledger) (one_row n f) (start ∷ [])))) (λ f. accepted (ones (marks_at ledger start f))) (figures_for ledger n start beside)
      (λ f e. ap (λ (marks : List ℕ). accepted (ones marks)) (one_marks_of f))

  -- its marks
  pub one_marks : (marks : List ℕ) → left (λ rows. strata_marks (parts_of (length ledger ∷ []) ledger) rows (start ∷ [])) marks (started_of ledger (length ledger ∷ []) n (start ∷ []) (length marks))
      ≡ left (marks_at ledger start) marks (figures_for ledger n start (length marks))
  one_marks marks = ap (left (λ rows. strata_marks (parts_of (length ledger ∷ []) ledger) rows (start ∷ [])) marks) (one_started (length marks)) ∙ go (figures_for ledger n start (length marks))
    where
      go : (o : Outcome Figures) → left (λ rows. strata_marks (parts_of (length ledger ∷ []) ledger) rows (start ∷ [])) marks (after (λ f. accepted (one_row n f)) o) ≡ left (marks_at ledger start) marks o
      go (accepted f) = one_marks_of f
      go (refused number place) = refl

  -- the row of one stratum
  abbrev pub one_projected : Figures → Projection → List ProjectionRow
  one_projected f sums = projection_row (record { draws = n; figures = f }) sums ∷ []

  errors_part : (errors : List ℤ) → length errors ≡ length ledger → parts_of (length ledger ∷ []) errors ≡ errors ∷ []
  unfolding parts_of
  errors_part errors same = ap (λ (l : List ℤ). l ∷ []) (take_all (length ledger) errors (omega arith))

  -- the projection: the plain one's refusals, or a row of its sums
  pub one_projection : (errors : List ℤ) → project_strata_of ledger (length ledger ∷ []) n (start ∷ []) errors
      ≡ after (λ f. after (λ sums. accepted (one_projected f sums)) (projection_at 0 f.interval start ledger errors)) (figures_for ledger n start (length errors))
  unfolding project_strata_of projected_from
  one_projection errors =
      let counts : List ℕ = length ledger ∷ [] in
      ap (after (λ rows. projected_from 0 (parts_of counts ledger) rows (start ∷ []) (parts_of counts errors))) (one_started (length errors))
      ∙ after_after (λ f. accepted (one_row n f)) (λ rows. projected_from 0 (parts_of counts ledger) rows (start ∷ []) (parts_of counts errors)) (figures_for ledger n start (length errors))
      ∙ after_alike (λ f. projected_from 0 (parts_of counts ledger) (one_row n f) (start ∷ []) (parts_of counts errors))
      (λ f. after (λ sums. accepted (one_projected f sums)) (projection_at 0 f.interval start ledger errors)) (figures_for ledger n start (length errors))
      (λ f e. (λ i. projected_from 0 (one_part ledger n i) (one_row n f) (start ∷ []) (errors_part errors (start_facts ledger n start (length errors) f e).facts.ledger_good.same i)))
