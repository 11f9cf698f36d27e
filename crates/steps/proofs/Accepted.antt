-- Where all steps accept, the interval is within its maximum, a draw is left and no error exceeds its line's value. Assumes nothing.
use Prim.Native.Nat.{ℕ, ◌≤◌, ◌<◌}
use Rattle.terms.specs.declared.Refusal.{Refusal}
use Rattle.std.specs.Prelude.{Result}
use mathlib.Core.Path.{◌≡◌, sym, ap, ◌∙◌}
use mathlib.Core.List.{List}
use mathlib.Core.Logic.{⊎_elim}
use native.Mathlib.Omega.{arith}
use lib.IntN.{ℤ}
use lib.ListN.{length}
use Rattle.terms.specs.Outcome.{accepted, says}
use Rattle.terms.proofs.Outcomes.{after_accepted}
use Rattle.terms.proofs.Tests.{le_or_lt}
use Rattle.factors.specs.Levels.{level_of}
use Rattle.ledger.specs.Ledger.{ledger_of}
use Rattle.size.specs.Size.{size_of}
use Rattle.split.specs.declared.Figures.{Figures}
use Rattle.split.specs.Split.{split_of}
use Rattle.split.proofs.Facts.{split_facts}
use Rattle.start.specs.declared.Chosen.{Chosen}
use Rattle.start.specs.Start.{start_of}
use Rattle.start.proofs.Laws.{within, no_interval}
use Rattle.judge.specs.Judge.{judge_of}
use Rattle.judge.proofs.Laws.{judge_facts}
use Rattle.workfile.specs.declared.Plan.{Plan}
use Rattle.steps.specs.declared.Planned.{Planned}
use Rattle.steps.specs.declared.Answers.{Answers}
use Rattle.steps.specs.Steps.{planned_with, answers_with, judged_from, started_from, split_from, sized_from, totalled_from, steps_of, StepsPromise, Shown}

-- the start that was chosen lies within the interval
start_early : (J : ℕ) (words : List ℕ) (s : Chosen) → start_of J words ≡ accepted s → s.start ≤ J
start_early J words s started =
    ⊎_elim
    (λ (h : J ≤ 0). let none : J ≡ 0 = omega arith in omega (arith, no_interval words s (sym (ap (λ (j : ℕ). start_of j words) none) ∙ started)))
    (λ (h : 0 < J). omega (arith, within J words s (omega arith) started)) (le_or_lt J 0)

-- from the split on
split_shown : (p : Planned) (words ledger : List ℕ) (errors : List ℤ) (a : Answers) → split_from p words ledger errors ≡ accepted a →
    Shown 0 a.figures.interval ledger errors × (1 ≤ a.figures.draws_left) × (a.chosen.start ≤ a.figures.interval)
unfolding split_from started_from judged_from
split_shown p words ledger errors a e =
    let b = after_accepted (started_from p words ledger errors) (split_of ledger p.draws (length errors)) a e in
    let f : Figures = b.0 in
    let facts = split_facts ledger p.draws (length errors) f b.1 in
    let d = after_accepted (judged_from p ledger errors f) (start_of f.interval words) a b.2 in
    let s = d.0 in
    let g = after_accepted (λ judgement. accepted (answers_with p f s judgement)) (judge_of p.level ledger p.draws s.start errors p.te) a d.2 in
    let same : f ≡ a.figures = let w : accepted (answers_with p f s g.0) ≡ accepted a = g.2 in cc in
    let shown : Shown 0 a.figures.interval ledger errors = record {
      narrow = rw (← same) facts.most;
      few = omega (arith, facts.ledger_good.few);
      summed = facts.ledger_good.most;
      same = facts.ledger_good.same;
      within = (judge_facts p.level ledger p.draws s.start errors p.te g.0 g.1).errors_within;
    } in
    let chosen : s ≡ a.chosen = let w : accepted (answers_with p f s g.0) ≡ accepted a = g.2 in cc in
    (shown, rw (← same) facts.a_draw, omega (arith, start_early f.interval words s d.1, ap (λ (x : Chosen). x.start) chosen, ap (λ (x : Figures). x.interval) same))

-- from the level on
steps_accepted : (plan : Plan) (words ledger : List ℕ) (errors : List ℤ) (a : Answers) → accepted a ≡ steps_of plan words ledger errors →
    Shown 0 a.figures.interval ledger errors × (1 ≤ a.figures.draws_left) × (a.chosen.start ≤ a.figures.interval)
unfolding steps_of totalled_from sized_from
steps_accepted plan words ledger errors a e =
    let b = after_accepted (λ level. totalled_from plan words ledger errors) (level_of plan.level) a (sym e) in
    let d = after_accepted (sized_from plan words ledger errors) (ledger_of ledger (length errors)) a b.2 in
    let g = after_accepted (λ draws. split_from (planned_with plan d.0 draws) words ledger errors) (size_of plan.level d.0 plan.te plan.ae) a d.2 in
    split_shown (planned_with plan d.0 g.0) words ledger errors a g.2

pub steps_shown : (plan : Plan) (words ledger : List ℕ) (errors : List ℤ) (a : Answers) → accepted a ≡ steps_of plan words ledger errors → Shown 0 a.figures.interval ledger errors
steps_shown plan words ledger errors a e = (steps_accepted plan words ledger errors a e).0

pub steps_early : (plan : Plan) (words ledger : List ℕ) (errors : List ℤ) (a : Answers) → accepted a ≡ steps_of plan words ledger errors → a.chosen.start ≤ a.figures.interval
steps_early plan words ledger errors a e = (steps_accepted plan words ledger errors a e).2

-- as `steps` meets it
pub steps_promised : {plan : Plan} {words ledger : List ℕ} {errors : List ℤ} {r : Result Answers Refusal} → says r ≡ steps_of plan words ledger errors → StepsPromise plan words ledger errors r
steps_promised {plan} {words} {ledger} {errors} e = record { answer = e; draw_kept = λ a h. (steps_accepted plan words ledger errors a (sym h ∙ e)).1 }
