-- The lines of the sheet as the code writes them, part after part. Assumes nothing.
use Prim.Native.Nat.{ℕ}
use mathlib.Core.Path.{◌≡◌, sym, ap}
use mathlib.Core.Bool.{Bool}
use mathlib.Core.List.{List, [], ◌∷◌}
use lib.IntN.{ℤ, pos}
use lib.Signed.{lt_z}
use mir.Syntax.{w64}
use mir.Val.{SFits}
use Rattle.signed.specs.Errors.{size_of}
use Rattle.signed.proofs.Signs.{held, kept}
use Rattle.pen.specs.Letters.{letters}
use Rattle.pen.specs.Text.{decimal, sized_text, signed_text, fields, more}
use Rattle.pen.specs.Page.{Wrote}
use Rattle.pen.proofs.Writing.{◌⨾◌, as_text, nothing, signed_read, words_laid}
use Rattle.project.specs.declared.State.{State}
use Rattle.project.specs.declared.State.TheVariants.{NotDrawn}
use Rattle.project.specs.declared.Projection.{Projection}
use Rattle.judge.specs.declared.Judgement.{Judgement}
use Rattle.steps.specs.declared.Answers.{Answers}
use Rattle.sheet.specs.Lines.{plan_line, split_line, start_line, entry_line, state_text, ledger_text, project_line, verdict_word, judge_line, opening_text, closing_text, answers_text}

module _ {page : List ℕ} {at : ℕ} where
  -- an error and its amount, and the net, as the last of a line
  pub signed_written : (u : Bool) (e a : ℕ) {p₁ p₂ p₃ : List ℕ} {a₁ a₂ a₃ : ℕ} → Wrote page at (32 ∷ sized_text e u) p₁ a₁ → Wrote p₁ a₁ (32 ∷ sized_text a u) p₂ a₂ →
      Wrote p₂ a₂ (10 ∷ []) p₃ a₃ → Wrote page at (more (sized_text e u ∷ sized_text a u ∷ [])) p₃ a₃
  signed_written u e a entered projected ended = entered ⨾ projected ⨾ ended

  pub net_written : (net : ℤ) {size : ℕ} {p₁ p₂ : List ℕ} {a₁ a₂ : ℕ} → SFits w64 net → size ≡ size_of (held net) →
      Wrote page at (32 ∷ sized_text size (lt_z (held net) (pos 0))) p₁ a₁ → Wrote p₁ a₁ (10 ∷ []) p₂ a₂ → Wrote page at (more (signed_text net ∷ [])) p₂ a₂
  net_written net fits told said ended = as_text (ap (λ (w : List ℕ). 32 ∷ w) (signed_read net fits told)) said ⨾ ended

  pub entry_written : (word : List ℕ) (i v : ℕ) (u : Bool) (e a : ℕ) {p₁ p₂ p₃ : List ℕ} {a₁ a₂ a₃ : ℕ} → Wrote page at word p₁ a₁ →
      Wrote p₁ a₁ (fields (i ∷ v ∷ [])) p₂ a₂ → Wrote p₂ a₂ (more (sized_text e u ∷ sized_text a u ∷ [])) p₃ a₃ → Wrote page at (entry_line word i v u e a) p₃ a₃
  entry_written word i v u e a opened placed ended = words_laid (i ∷ v ∷ []) (sized_text e u ∷ sized_text a u ∷ []) opened placed ended

  -- a line's state that is the arm's case: it has no text
  pub state_none : (i v : ℕ) (u : Bool) (e : ℕ) {s : State} → s ≡ NotDrawn → Wrote page at (state_text i v u e s) page at
  state_none i v u e is = as_text (ap (state_text i v u e) is) nothing

  pub project_written : (p : Projection) {p₁ p₂ p₃ : List ℕ} {a₁ a₂ a₃ : ℕ} → Wrote page at (letters "project") p₁ a₁ →
      Wrote p₁ a₁ (fields (p.full ∷ p.sampled ∷ p.m ∷ p.under_full ∷ p.under_sampled ∷ [])) p₂ a₂ → SFits w64 p.net →
      Wrote p₂ a₂ (more (signed_text (held p.net) ∷ [])) p₃ a₃ → Wrote page at (project_line p) p₃ a₃
  project_written p opened summed fits ended =
      words_laid (p.full ∷ p.sampled ∷ p.m ∷ p.under_full ∷ p.under_sampled ∷ []) (signed_text p.net ∷ []) opened summed
      (as_text (ap (λ (net : ℤ). more (signed_text net ∷ [])) (sym (kept p.net fits.sfits))) ended)

  pub judge_written : (j : Judgement) {p₁ p₂ p₃ p₄ : List ℕ} {a₁ a₂ a₃ a₄ : ℕ} → Wrote page at (letters "judge") p₁ a₁ → Wrote p₁ a₁ (32 ∷ decimal j.precision) p₂ a₂ →
      Wrote p₂ a₂ (32 ∷ decimal j.upper_limit) p₃ a₃ → Wrote p₃ a₃ (more (verdict_word j.verdict ∷ [])) p₄ a₄ → Wrote page at (judge_line j) p₄ a₄
  judge_written j opened precise limited said = opened ⨾ precise ⨾ limited ⨾ said

  pub opening_written : (a : Answers) {p₁ p₂ p₃ : List ℕ} {a₁ a₂ a₃ : ℕ} → Wrote page at (plan_line a.planned) p₁ a₁ → Wrote p₁ a₁ (split_line a.figures) p₂ a₂ →
      Wrote p₂ a₂ (start_line a.chosen) p₃ a₃ → Wrote page at (opening_text a) p₃ a₃
  opening_written a planned parted started = planned ⨾ parted ⨾ started

  pub closing_written : (j : Judgement) {p₁ p₂ : List ℕ} {a₁ a₂ : ℕ} → Wrote page at (project_line j.projection) p₁ a₁ → Wrote p₁ a₁ (judge_line j) p₂ a₂ →
      Wrote page at (closing_text j) p₂ a₂
  closing_written j projected judged = projected ⨾ judged

  pub answers_written : (ledger : List ℕ) (errors : List ℤ) (a : Answers) {p₁ p₂ p₃ : List ℕ} {a₁ a₂ a₃ : ℕ} → Wrote page at (opening_text a) p₁ a₁ →
      Wrote p₁ a₁ (ledger_text 0 a.figures.interval a.chosen.start ledger errors) p₂ a₂ → Wrote p₂ a₂ (closing_text a.judgement) p₃ a₃ →
      Wrote page at (answers_text ledger errors a) p₃ a₃
  unfolding answers_text
  answers_written ledger errors a opened listed closed = opened ⨾ listed ⨾ closed
