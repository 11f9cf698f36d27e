-- More error never looks better, and a higher level never lowers the upper limit, of every ledger, n and start. Assumes nothing.
use Prim.Native.Nat.{ℕ, ◌≤◌, ◌<◌}
use native.Mathlib.Nat.{le_refl}
use native.Mathlib.Omega.{arith}
use mathlib.Core.Path.{◌≡◌, refl, sym, ap, ◌∙◌, subst}
use mathlib.Core.Bool.{Bool, true, false}
use mathlib.Core.List.{List}
use mathlib.Core.Logic.{⊎_elim}
use borrow.Author.Tests.{eqb-true, eqb-false}
use lib.Dec.{eqb}
use lib.IntN.{ℤ, nat_abs}
use lib.ListN.{length, get_or}
use Rattle.terms.specs.Outcome.{Outcome, accepted, refused}
use Rattle.terms.specs.Numbers.{sum}
use Rattle.terms.specs.Limits.{most_errors}
use Rattle.terms.proofs.Tests.{le_or_lt}
use Rattle.factors.specs.declared.Level.{Level}
use Rattle.factors.specs.Levels.{percent_of, level_of}
use Rattle.factors.proofs.Percents.{named_only}
use Rattle.signed.specs.declared.Part.TheVariants.{Overstated, Size}
use Rattle.signed.specs.Parts.{parts}
use Rattle.signed.proofs.Laws.{parts_at}
use Rattle.ledger.specs.Ledger.{ledger_of}
use Rattle.split.specs.declared.Figures.{Figures}
use Rattle.split.specs.Start.{figures_for}
use Rattle.project.specs.declared.Line.{Line}
use Rattle.project.specs.declared.Projection.{Projection}
use Rattle.project.specs.Lines.{amounts_of}
use Rattle.project.specs.Project.{checked_lines, lines_with, both_kinds, project_of}
use Rattle.project.proofs.Changed.{AtLine, passes, too_large, not_drawn, parts_agree, lines_changed, m_changed}
use Rattle.project.proofs.Laws.{checked_lines_lem}
use Rattle.project.proofs.Growing.{both_projected, over_up}
use Rattle.precision.specs.Precision.{precision_cents, precision_of}
use Rattle.precision.proofs.Growing.{amounts_up}
use Rattle.judge.specs.declared.Judgement.{Judgement}
use Rattle.judge.specs.Judge.{judged_at, judge_of}
use Rattle.judge.proofs.Changed.{judge_at, line_refused, too_many}
use Rattle.judge.proofs.Laws.{Chain, judge_facts, judge_chain, by_chain, lines_passed, by_lines}
use Rattle.judge.proofs.Verdicts.{verdict_placed}
use Rattle.demands.specs.MoreError.{over_at, OneChanged, OneRaised, NoneLowered, CanAnswer, judged, projected_error, NoBetter, OneStep, HigherLevel, MoreError}

-- one finding raised lowers none
pub none_lowered : (line : ℕ) (before now : List ℤ) → OneRaised line before now → NoneLowered before now
none_lowered line before now one other = go (eqb other line) refl
  where
    go : (b : Bool) → eqb other line ≡ b → over_at before other ≤ over_at now other
    go true same = rw (eqb-true other line same) one.raised
    go false apart = rw (one.others other (eqb-false other line apart)) (le_refl _)

-- the same, of the overstated parts
pub parts_less : (before now : List ℤ) → NoneLowered before now → (line : ℕ) → get_or (parts Overstated before) line 0 ≤ get_or (parts Overstated now) line 0
parts_less before now less line = omega (arith, less line, parts_at Overstated before line, parts_at Overstated now line)

module _ (ledger : List ℕ) (n start : ℕ) (before now : List ℤ) (less : NoneLowered before now) where
  abbrev fewer : (line : ℕ) → get_or (parts Overstated before) line 0 ≤ get_or (parts Overstated now) line 0
  fewer = parts_less before now less

  projected_up : (p q : Projection) → project_of ledger n start before ≡ accepted p → project_of ledger n start now ≡ accepted q → projected_error p ≤ projected_error q
  projected_up p q e f =
      let up = over_up ledger n start before now fewer p q e f in
      omega (arith, up.full, up.sampled)

  -- a higher level, too
  module _ (low high te : ℕ) (j k : Judgement) (e : judge_of low ledger n start before te ≡ accepted j) (f : judge_of high ledger n start now te ≡ accepted k) (higher : low ≤ high) where
    limit_up : j.upper_limit ≤ k.upper_limit
    limit_up =
        let a = judge_facts low ledger n start before te j e in
        let b = judge_facts high ledger n start now te k f in
        let both = both_projected ledger n start before now fewer j.projection k.projection a.projected b.projected in
        let J : ℕ = both.figures.interval in
        let xs : List ℕ = amounts_of (lines_with Overstated J start ledger before) in
        let ys : List ℕ = amounts_of (lines_with Overstated J start ledger now) in
        let own : a.figures ≡ both.figures = let w = sym a.started ∙ both.started in cc in
        let other : b.figures ≡ both.figures = let w = sym b.started ∙ ap (figures_for ledger n start) (sym both.same_long) ∙ both.started in cc in
        let levels : percent_of a.level ≤ percent_of b.level = omega (arith, named_only low a.level a.named, named_only high b.level b.named) in
        let lower : j.precision ≡ precision_cents a.level J xs =
        ap nat_abs (a.signed ∙ ap (λ (g : Figures). precision_of a.level g.interval (amounts_of (lines_with Overstated g.interval start ledger before))) own) in
        let upper : k.precision ≡ precision_cents b.level J ys =
        ap nat_abs (b.signed ∙ ap (λ (g : Figures). precision_of b.level g.interval (amounts_of (lines_with Overstated g.interval start ledger now))) other) in
        let x = (both.first.facts Overstated).amounts in
        let y = (both.second.facts Overstated).amounts in
        let p = both.first.answer in
        let q = both.second.answer in
        let few : length xs < 64 = omega (arith, x.count, a.few, ap (λ (r : Projection). r.m) p) in
        let few' : length ys < 64 = omega (arith, y.count, b.few, ap (λ (r : Projection). r.m) q) in
        let up = amounts_up a.level b.level J levels few few' x.each y.each both.lines.amounts in
        let full : j.projection.full ≤ k.projection.full = (over_up ledger n start before now fewer j.projection k.projection a.projected b.projected).full in
        let sampled : j.projection.sampled ≡ sum xs = ap (λ (r : Projection). r.sampled) p ∙ sym x.added in
        let sampled' : k.projection.sampled ≡ sum ys = ap (λ (r : Projection). r.sampled) q ∙ sym y.added in
        omega (arith, up, lower, upper, full, sampled, sampled', a.limit, b.limit)

    no_better : NoBetter j k
    no_better =
        let a = judge_facts low ledger n start before te j e in
        let b = judge_facts high ledger n start now te k f in
        let first = verdict_placed low ledger n start before te j e in
        let second = verdict_placed high ledger n start now te k f in
        let projected = projected_up j.projection k.projection a.projected b.projected in
        record {
          projected = omega (arith, projected);
          limit = omega (arith, limit_up);
          above = λ v. second.above.1 (omega (arith, first.above.0 v, projected));
          below = λ v. first.below.1 (omega (arith, second.below.0 v, limit_up));
        }

-- one finding raised
one_step : (ledger : List ℕ) (n start level te line : ℕ) (before now : List ℤ) → OneRaised line before now → (j k : Judgement) →
    judge_of level ledger n start before te ≡ accepted j → judge_of level ledger n start now te ≡ accepted k → OneStep j k
one_step ledger n start level te line before now one j k e f =
    let less = none_lowered line before now one in
    let fewer = parts_less before now less in
    let a = judge_facts level ledger n start before te j e in
    let b = judge_facts level ledger n start now te k f in
    let both = both_projected ledger n start before now fewer j.projection k.projection a.projected b.projected in
    record {
      no_better = no_better ledger n start before now less level level te j k e f (le_refl level);
      m = (over_up ledger n start before now fewer j.projection k.projection a.projected b.projected).m;
      one_more = omega (
        arith,
        m_changed both.figures.interval start line ledger (parts Overstated before) (parts Overstated now) (parts_agree Overstated line before now one.others),
        ap (λ (r : Projection). r.m) both.first.answer,
        ap (λ (r : Projection). r.m) both.second.answer,
      );
    }

-- the same errors at two levels
module _ (ledger : List ℕ) (n start low high te : ℕ) (errors : List ℤ) (j : Judgement) (e : judge_of low ledger n start errors te ≡ accepted j) where
  -- no other refusal hangs on the level
  level_answers : (level : Level) → level_of high ≡ accepted level → (k : Judgement) × (judge_of high ledger n start errors te ≡ accepted k)
  level_answers level named =
      let c = judge_chain low ledger n start errors te j e in
      let o = lines_passed c.level ledger n start errors te c.figures c.started j c.at in (
        _,
        by_chain high ledger n start errors te _
            (record {
              level = level;
              named = named;
              total = c.total;
              judged = c.judged;
              range = c.range;
              figures = c.figures;
              started = c.started;
              at = by_lines level ledger n start errors te c.figures c.started o.0 o.1;
            }),
      )

  higher_level : (k : Judgement) → judge_of high ledger n start errors te ≡ accepted k → low ≤ high → HigherLevel j k
  higher_level k f higher =
      let a = judge_facts low ledger n start errors te j e in
      let b = judge_facts high ledger n start errors te k f in
      let same : j.projection ≡ k.projection = let w = sym a.projected ∙ b.projected in cc in
      let projected : projected_error j.projection ≡ projected_error k.projection = ap projected_error same in
      let worse = no_better ledger n start errors errors (λ line. le_refl (over_at errors line)) low high te j k e f higher in
      record {
        projection = same;
        precision = omega (arith, worse.limit, a.limit, b.limit, projected);
        no_better = worse;
        above_only = λ v. (verdict_placed low ledger n start errors te j e).above.1 (omega (arith, (verdict_placed high ledger n start errors te k f).above.0 v, projected));
      }

-- one finding changed
module _ (ledger : List ℕ) (n start level te line : ℕ) (before now : List ℤ) (long : length now ≡ length before) (others : OneChanged line before now) (j : Judgement)
    (e : judge_of level ledger n start before te ≡ accepted j) where
  -- by what its lines answer
  module _ (c : Chain level ledger n start before te j) where
    abbrev interval : ℕ
    interval = c.figures.interval

    started : figures_for ledger n start (length now) ≡ accepted c.figures
    started = ap (figures_for ledger n start) long ∙ c.started

    from_lines : judge_of level ledger n start now te ≡ judged_at c.level ledger start now te interval
    from_lines = judge_at level ledger n start now te c.level c.total c.figures c.named (ap (ledger_of ledger) long ∙ c.judged) c.range started

    by_outcome : {o : Outcome (List Line)} → checked_lines 0 interval start ledger (parts Size now) ≡ o → AtLine line o → CanAnswer line (judged_at c.level ledger start now te interval)
    by_outcome q passes =
        ⊎_elim
        (λ few. subst (CanAnswer line) (sym (by_lines c.level ledger n start now te c.figures started (checked_lines_lem 0 interval start ledger (parts Size now) _ q) few)) judged)
        (λ many. subst (CanAnswer line) (sym (too_many c.level ledger start now te interval q many)) CanAnswer.too_many)
        (le_or_lt (both_kinds interval start ledger now).m most_errors)
    by_outcome q (too_large same) =
        subst (CanAnswer line) (sym (line_refused c.level ledger start now te interval (q ∙ ap (refused 14) same))) CanAnswer.too_large
    by_outcome q (not_drawn same) =
        subst (CanAnswer line) (sym (line_refused c.level ledger start now te interval (q ∙ ap (refused 15) same))) CanAnswer.not_drawn

  can_answer : CanAnswer line (judge_of level ledger n start now te)
  can_answer =
      let c = judge_chain level ledger n start before te j e in
      let passed = lines_passed c.level ledger n start before te c.figures c.started j c.at in
      subst (CanAnswer line) (sym (from_lines c)) (by_outcome c refl (lines_changed 0 (interval c) start line line ledger (parts Size before) (parts Size now) _ (parts_agree Size line before now others) (omega arith) passed.0))

pub more_error : (ledger : List ℕ) (n start : ℕ) → MoreError ledger n start
more_error ledger n start =
    record {
      changed = can_answer ledger n start;
      projection = projected_up ledger n start;
      one = one_step ledger n start;
      several = λ low high te before now higher less j k e f. no_better ledger n start before now less low high te j k e f higher;
      answers = λ low high te errors level j e named. level_answers ledger n start low high te errors j e level named;
      level = λ low high te errors higher j k e f. higher_level ledger n start low high te errors j e k f higher;
    }
