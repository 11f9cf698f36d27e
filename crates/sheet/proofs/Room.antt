-- How long the texts are at most, where every number fits 64 bits, with its sign where it has one. Assumes nothing.
use Prim.Native.Nat.{ℕ, suc, ◌+◌, ◌*◌, ◌≤◌, ◌<◌}
use native.Mathlib.Omega.{arith}
use mathlib.Core.Path.{◌≡◌, refl, ap, subst, ◌∙◌}
use mathlib.Core.Bool.{Bool, true, false}
use mathlib.Core.List.{List, [], ◌∷◌, ◌++◌}
use borrow.Author.Tests.{ltb-true}
use lib.Dec.{ltb}
use lib.IntN.{ℤ, pos}
use lib.ListN.{length, get_or, drop, length-append}
use lib.Seq.{get_or-drop}
use mir.Syntax.{w64}
use mir.Val.{SFits}
use Rattle.terms.specs.declared.Refusal.{Refusal}
use Rattle.terms.specs.declared.Told.{Told}
use Rattle.terms.specs.Refusals.{tells, number, place}
use Rattle.terms.specs.Limits.{most_total, most_interval}
use Rattle.terms.proofs.Sums.{one_of_sum}
use Rattle.signed.specs.declared.Part.TheVariants.{Size}
use Rattle.signed.specs.Errors.{is_under}
use Rattle.signed.specs.Parts.{parts}
use Rattle.signed.proofs.Laws.{held_size}
use Rattle.pen.specs.Letters.{letters}
use Rattle.pen.specs.Text.{decimal, sized_text, signed_text}
use Rattle.pen.specs.Page.{Wrote}
use Rattle.pen.proofs.Lengths.{Small, decimal_short, sized_short, signed_short, words_short, line_short}
use Rattle.split.specs.declared.Figures.{Figures}
use Rattle.start.specs.declared.Chosen.{Chosen}
use Rattle.draw.specs.Row.{full}
use Rattle.walk.specs.Walk.{ahead_after}
use Rattle.project.specs.declared.State.{State}
use Rattle.project.specs.declared.State.TheVariants.{NotDrawn, Drawn, Full}
use Rattle.project.specs.declared.Line.{Line}
use Rattle.project.specs.Lines.{amount, state_by}
use Rattle.project.specs.Gather.{line_at, lines_walk}
use Rattle.project.proofs.Amounts.{amount_most}
use Rattle.project.proofs.Lines.{walk_none, walk_more}
use Rattle.judge.specs.declared.Verdict.{Verdict}
use Rattle.judge.specs.declared.Verdict.TheVariants.{Below, Inconclusive, Above}
use Rattle.judge.specs.declared.Judgement.{Judgement}
use Rattle.steps.specs.declared.Planned.{Planned}
use Rattle.steps.specs.declared.Answers.{Answers}
use Rattle.steps.specs.Steps.{Shown}
use Rattle.sheet.specs.Lines.{plan_line, split_line, start_line, entry_line, state_text, item_text, items_text, project_line, verdict_word, judge_line, refused_line, ledger_text, answers_text}
use Rattle.sheet.proofs.Items.{rest_all}

-- a size that 64 bits hold with either sign
abbrev Sized : ℕ → Type 0
Sized n = n ≤ 9223372036854775808

-- what a drawn line carries is one
abbrev SizedState : State → Type 0
SizedState NotDrawn = Unit
SizedState (Drawn projected) = Sized projected
SizedState Full = Unit

state_sized : (J next v e : ℕ) (f t : Bool) → ltb next v ≡ t → J ≤ most_interval → e ≤ v → SizedState (state_by f t (amount J v e))
state_sized J next v e true t p h w = tt
state_sized J next v e false true p h w = let some = ltb-true next v p in omega (arith, amount_most J v e (omega arith) w)
state_sized J next v e false false p h w = tt

entry_short : (word : List ℕ) (i v : ℕ) (u : Bool) (e a : ℕ) → Small i → Small v → Sized e → Sized a → length (entry_line word i v u e a) ≤ length word + 85
entry_short word i v u e a hi hv he ha =
    let last : List ℕ = sized_text a u ++ (10 ∷ []) in
    omega (
      arith,
      words_short word (i ∷ v ∷ []) (sized_text e u ∷ sized_text a u ∷ []) (hi, (hv, tt)),
      length-append (sized_text e u) (32 ∷ last),
      length-append (sized_text a u) (10 ∷ []),
      sized_short e u he,
      sized_short a u ha,
    )

state_short : (i v : ℕ) (u : Bool) (e : ℕ) (s : State) → Small i → Small v → Sized e → SizedState s → length (state_text i v u e s) ≤ 90
state_short i v u e NotDrawn hi hv he hs = omega arith
state_short i v u e (Drawn a) hi hv he hs = omega (arith, entry_short (letters "drawn") i v u e a hi hv he hs)
state_short i v u e Full hi hv he hs = omega (arith, entry_short (letters "full") i v u e e hi hv he he)

-- the lines of a walk take at most 90 bytes each, whatever the signs
walk_short : (errors : List ℤ) (J next item : ℕ) (ledger sizes : List ℕ) → Small (item + length ledger) → J ≤ most_interval →
    ((k : ℕ) → k < length ledger → get_or sizes k 0 ≤ get_or ledger k 0) → ((k : ℕ) → get_or ledger k 0 ≤ most_total) →
    length (items_text errors item (lines_walk J next ledger sizes)) ≤ 90 * length ledger
unfolding items_text
walk_short errors J next item [] sizes h narrow w most = rw (walk_none J next sizes) (omega arith)
walk_short errors J next item (v ∷ vs) sizes h narrow w most =
    let e : ℕ = get_or sizes 0 0 in
    let l : Line = line_at J next v e in
    let u = is_under (get_or errors 0 (pos 0)) in
    let front : (k : ℕ) → get_or (drop 1 sizes) k 0 ≡ get_or sizes (suc k) 0 = λ k. let one : 1 + k ≡ suc k = omega arith in get_or-drop 1 sizes k 0 ∙ ap (λ (n : ℕ). get_or sizes n 0) one in
    let own = w 0 (omega arith) in
    let first = state_short item v u e l.state (omega arith) (omega (arith, most 0)) (omega (arith, own, most 0)) (state_sized J next v e (full J v) (ltb next v) refl narrow own) in
    let later = walk_short (drop 1 errors) J (ahead_after J next v) (suc item) vs (drop 1 sizes) (omega arith) narrow (λ k g. omega (arith, w (suc k) (omega arith), front k)) (λ k. most (suc k)) in
    rw (walk_more J next v vs sizes)
    (omega (arith, length-append (item_text item u l) (items_text (drop 1 errors) (suc item) (lines_walk J (ahead_after J next v) vs (drop 1 sizes))), first, later))

-- those of a ledger that the steps accept
pub ledger_short : {first J : ℕ} {ledger : List ℕ} {errors : List ℤ} → Shown first J ledger errors → (start : ℕ) → length (ledger_text first J start ledger errors) ≤ 90 * length ledger
ledger_short {first} {J} {ledger} {errors} p start =
    rw (rest_all first J ledger errors start)
    (walk_short errors J start (first + 0) ledger (parts Size errors) (omega (arith, p.few)) p.narrow p.within (λ k. omega (arith, one_of_sum ledger k, p.summed)))

refused_short : (number place : ℕ) → Small number → Small place → length (refused_line number place) ≤ 50
refused_short number place hn hp = omega (arith, line_short (letters "refused") (number ∷ place ∷ []) (hn, (hp, tt)))

-- the line of a refusal, written with the number and the place that it tells
pub refused_written : (why : Refusal) {t : Told} {at at' : ℕ} {page page' : List ℕ} → t ≡ tells why → Small t.number → Small t.place →
    Wrote page at (refused_line t.number t.place) page' at' →
    Wrote page at (refused_line (number why) (place why)) page' at' × (length (refused_line (number why) (place why)) ≤ 50)
refused_written why {t} {at} {at'} {page} {page'} is hn hp w =
    subst (λ (s : Told). Wrote page at (refused_line s.number s.place) page' at' × (length (refused_line s.number s.place) ≤ 50)) is
    (w, refused_short t.number t.place hn hp)

-- the figures fit
pub record SmallPlanned (p : Planned) : Type 0 where
  pub level : Small p.level
  pub total : Small p.total
  pub te : Small p.te
  pub ae : Small p.ae
  pub draws : Small p.draws

pub record SmallFigures (f : Figures) : Type 0 where
  pub interval : Small f.interval
  pub draws_left : Small f.draws_left
  pub sampled_total : Small f.sampled_total
  pub full_lines : Small f.full_lines
  pub full_total : Small f.full_total

pub record SmallJudgement (j : Judgement) : Type 0 where
  pub full : Small j.projection.full
  pub sampled : Small j.projection.sampled
  pub m : Small j.projection.m
  pub under_full : Small j.projection.under_full
  pub under_sampled : Small j.projection.under_sampled
  pub net : SFits w64 j.projection.net
  pub precision : Small j.precision
  pub upper_limit : Small j.upper_limit

pub record SmallAnswers (a : Answers) : Type 0 where
  pub planned : SmallPlanned a.planned
  pub figures : SmallFigures a.figures
  pub start : Small a.chosen.start
  pub words : Small a.chosen.words
  pub judgement : SmallJudgement a.judgement

plan_short : (p : Planned) → SmallPlanned p → length (plan_line p) ≤ 110
plan_short p s =
    omega (arith, line_short (letters "plan") (p.level ∷ p.total ∷ p.te ∷ p.ae ∷ p.draws ∷ []) (s.level, (s.total, (s.te, (s.ae, (s.draws, tt))))))

split_short : (f : Figures) → SmallFigures f → length (split_line f) ≤ 111
split_short f s =
    omega (
      arith,
      line_short (letters "split") (f.interval ∷ f.draws_left ∷ f.sampled_total ∷ f.full_lines ∷ f.full_total ∷ [])
          (s.interval, (s.draws_left, (s.sampled_total, (s.full_lines, (s.full_total, tt))))),
    )

start_short : (c : Chosen) → Small c.start → Small c.words → length (start_line c) ≤ 48
start_short c hs hw = omega (arith, line_short (letters "start") (c.start ∷ c.words ∷ []) (hs, (hw, tt)))

verdict_short : (v : Verdict) → length (verdict_word v) ≤ 12
verdict_short Below = omega arith
verdict_short Inconclusive = omega arith
verdict_short Above = omega arith

module _ (j : Judgement) (s : SmallJudgement j) where
  project_short : length (project_line j.projection) ≤ 134
  project_short =
      let p = j.projection in
      omega (
        arith,
        words_short (letters "project") (p.full ∷ p.sampled ∷ p.m ∷ p.under_full ∷ p.under_sampled ∷ []) (signed_text p.net ∷ [])
            (s.full, (s.sampled, (s.m, (s.under_full, (s.under_sampled, tt))))),
        length-append (signed_text p.net) (10 ∷ []),
        signed_short p.net (held_size p.net s.net.sfits),
      )

  judge_short : length (judge_line j) ≤ 61
  judge_short =
      let word = verdict_word j.verdict in
      let last : List ℕ = decimal j.upper_limit ++ (32 ∷ (word ++ (10 ∷ []))) in
      omega (
        arith,
        length-append (decimal j.precision) (32 ∷ last),
        length-append (decimal j.upper_limit) (32 ∷ (word ++ (10 ∷ []))),
        length-append word (10 ∷ []),
        decimal_short j.precision s.precision,
        decimal_short j.upper_limit s.upper_limit,
        verdict_short j.verdict,
      )

pub answers_short : (ledger : List ℕ) (errors : List ℤ) (a : Answers) → SmallAnswers a → Shown 0 a.figures.interval ledger errors →
    length (answers_text ledger errors a) ≤ 464 + 90 * length ledger
unfolding answers_text
answers_short ledger errors a s p =
    let plan = plan_line a.planned in
    let split = split_line a.figures in
    let start = start_line a.chosen in
    let lines = ledger_text 0 a.figures.interval a.chosen.start ledger errors in
    let project = project_line a.judgement.projection in
    let judge = judge_line a.judgement in
    omega (
      arith,
      length-append (plan ++ (split ++ start)) (lines ++ (project ++ judge)),
      length-append plan (split ++ start),
      length-append split start,
      length-append lines (project ++ judge),
      length-append project judge,
      plan_short a.planned s.planned,
      split_short a.figures s.figures,
      start_short a.chosen s.start s.words,
      ledger_short p a.chosen.start,
      project_short a.judgement s.judgement,
      judge_short a.judgement s.judgement,
    )
