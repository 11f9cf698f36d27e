-- What concludes a judgement; and from a ledger that is judged to the figures for a start, as `judge` meets them. Assumes nothing.
use mathlib.Core.Path.{◌≡◌, sym, ap, ◌∙◌}
use mathlib.Core.List.{List}
use Prim.Native.Nat.{ℕ, ◌+◌}
use lib.IntN.{ℤ}
use lib.ListN.{length}
use Rattle.terms.specs.Outcome.{Outcome, accepted}
use Rattle.split.specs.declared.Figures.{Figures}
use Rattle.split.specs.Start.{figures_at, figures_for}
use Rattle.split.proofs.Start.{from_total}
use Rattle.ledger.specs.Ledger.{ledger_of}
use Rattle.project.specs.Project.{Ready}
use Rattle.project.proofs.Laws.{ready}
use Rattle.project.specs.declared.Projection.{Projection}
use Rattle.judge.specs.declared.{Judgement.Judgement, Verdict.Verdict}
use Rattle.judge.specs.Judge.{verdict_of, concluded}

pub concludes : (te : ℕ) (p : Projection) (precision limit : ℕ) (v : Verdict) → limit ≡ p.full + p.sampled + precision → v ≡ verdict_of te (p.full + p.sampled) limit →
    ◌≡◌ {A = Judgement} (record { projection = p; precision = precision; upper_limit = limit; verdict = v }) (concluded te p precision)
unfolding concluded
concludes te p precision limit v l e =
    λ i. record { projection = p; precision = precision; upper_limit = l i; verdict = (e ∙ ap (verdict_of te (p.full + p.sampled)) l) i }

-- the figures after the judgement of the ledger are those of the whole
pub judged : (ledger : List ℕ) (n start beside total : ℕ) {o : Outcome Figures} → o ≡ figures_at ledger n start → accepted total ≡ ledger_of ledger beside → o ≡ figures_for ledger n start beside
judged ledger n start beside total e j = e ∙ from_total ledger n start beside total j

pub judged_ready : (ledger : List ℕ) (n start total : ℕ) (errors : List ℤ) (f : Figures) → accepted f ≡ figures_at ledger n start → accepted total ≡ ledger_of ledger (length errors) → Ready 0 f.interval start ledger errors
judged_ready ledger n start total errors f e j = ready ledger n start errors f (sym (judged ledger n start (length errors) total e j))
