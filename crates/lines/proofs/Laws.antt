-- The projected lines answer as the projection does, and 13 also where the amounts differ in length; which refusals they give; and what is left in
-- the amounts: what was there after a refusal, and else an entry for each line. Those of a kind add to its two sums, and all to the net. Assumes
-- nothing.
use mathlib.Core.Path.{◌≡◌, refl, sym, ap, ◌∙◌}
use Rattle.std.specs.Prelude.{Ok, Err}
use mathlib.Core.Bool.{Bool, true, false}
use mathlib.Core.List.{List, [], ◌∷◌}
use Prim.Native.Nat.{ℕ, ◌+◌, ◌≤◌}
use native.Mathlib.Omega.{arith}
use lib.IntN.{ℤ, pos, ◌-ℤ◌}
use lib.ListN.{length, get_or, drop, length-map}
use Rattle.terms.specs.declared.Refusal.{Refusal}
use Rattle.terms.specs.Outcome.{Outcome, accepted, refused, after, left}
use Rattle.terms.specs.Numbers.{sum}
use Rattle.terms.specs.Limits.{most_lines}
use Rattle.terms.proofs.Outcomes.{after_accepted, Gives}
use Rattle.signed.specs.declared.Part.{Part}
use Rattle.signed.specs.declared.Part.TheVariants.{Overstated, Understated, Size}
use Rattle.signed.specs.Errors.{size_of, is_under, signed_of}
use Rattle.signed.specs.Parts.{part_of, parts, net_of}
use Rattle.signed.proofs.Laws.{part_is_size, parts_at, parts_drop}
use Rattle.signed.proofs.Lists.{parts_nil, parts_cons, signs_nil, signs_cons, signs_length, part_by, part_by_lem, signed_part, net_of_parts}
use Rattle.ledger.proofs.Laws.{length_refused}
use Rattle.split.specs.declared.Figures.{Figures}
use Rattle.split.specs.Start.{figures_for}
use Rattle.split.proofs.Facts.{from_ledger}
use Rattle.split.proofs.Start.{from_split, StartFacts, start_facts}
use Rattle.walk.specs.Walk.{ahead_after}
use Rattle.project.specs.declared.State.{State}
use Rattle.project.specs.declared.State.TheVariants.{NotDrawn, Drawn, Full}
use Rattle.project.specs.declared.Line.{Line}
use Rattle.project.specs.declared.Sums.{Sums}
use Rattle.project.specs.declared.Projection.{Projection}
use Rattle.project.specs.Lines.{full_part, sampled_part, sums_of}
use Rattle.project.specs.Project.{checked_lines, lines_with, projected_by, project_of}
use Rattle.project.specs.Gather.{line_at, lines_walk}
use Rattle.project.proofs.Lines.{total_none, total_more, lines_walked, walk_none, walk_more, lines_length}
use Rattle.project.proofs.Laws.{projection_refused, ProjectedFacts, projected_facts, project_from, project_numbers, projected_gives}
use Rattle.lines.specs.Each.{projects_by, projects, each_projects, amounts_with, projects_at, length_beside, project_lines_of, LinesPromise}
use Rattle.lines.proofs.Beside.{beside_same, beside_is_errors}
use Rattle.lines.proofs.Writing.{projects_nothing}
use Rattle.lines.proofs.Answer.{lines_from_lem, projection_from}

-- what a line projects is what it gives to the two sums
projects_parts : (s : State) (e : ℕ) → projects_by s e ≡ full_part s e + sampled_part s e
projects_parts NotDrawn e = omega arith
projects_parts (Drawn a) e = omega arith
projects_parts Full e = omega arith

pub each_adds : (lines : List Line) → sum (each_projects lines) ≡ (sums_of lines).full + (sums_of lines).sampled
unfolding each_projects
each_adds [] = omega (arith, total_none full_part, total_none sampled_part)
each_adds (l ∷ ls) = omega (arith, each_adds ls, projects_parts l.state l.error, total_more full_part l ls, total_more sampled_part l ls)

-- and each line has its entry
each_length : (errors : List ℤ) (lines : List Line) → length (amounts_with errors lines) ≡ length lines
unfolding each_projects
each_length errors lines = signs_length (each_projects lines) errors ∙ length-map lines projects

-- of one part, a line projects what it projects with that part of its error
by_kind : (p : Part) (under : Bool) (J next v n : ℕ) → part_by p under (projects (line_at J next v n)) ≡ projects (line_at J next v (part_by p under n))
by_kind Overstated true J next v n = sym (projects_nothing J next v)
by_kind Overstated false J next v n = refl
by_kind Understated true J next v n = refl
by_kind Understated false J next v n = sym (projects_nothing J next v)
by_kind Size under J next v n = refl

part_at_line : (p : Part) (J next v : ℕ) (e : ℤ) → part_of p (projects_at J next v e) ≡ projects (line_at J next v (part_of p e))
part_at_line p J next v e =
    signed_part p (projects (line_at J next v (size_of e))) (is_under e) ∙ by_kind p (is_under e) J next v (size_of e) ∙ sym (ap (λ (x : ℕ). projects (line_at J next v x)) (part_by_lem p e))

each_walked : (p : Part) (J next : ℕ) (vs : List ℕ) (es : List ℤ) → parts p (amounts_with es (lines_walk J next vs (parts Size es))) ≡ each_projects (lines_walk J next vs (parts p es))
unfolding each_projects
each_walked p J next [] es =
    ap (λ (ls : List Line). parts p (amounts_with es ls)) (walk_none J next (parts Size es)) ∙ ap (parts p) (signs_nil es) ∙ parts_nil p ∙ sym (ap each_projects (walk_none J next (parts p es)))
each_walked p J next (v ∷ vs) es =
    let e : ℤ = get_or es 0 (pos 0) in
    let on : ℕ = ahead_after J next v in
    let here : part_of p (signed_of (projects (line_at J next v (get_or (parts Size es) 0 0))) (is_under e)) ≡ projects (line_at J next v (get_or (parts p es) 0 0)) =
    ap (λ (x : ℕ). part_of p (signed_of (projects (line_at J next v x)) (is_under e))) (parts_at Size es 0 ∙ part_is_size e)
    ∙ part_at_line p J next v e ∙ sym (ap (λ (x : ℕ). projects (line_at J next v x)) (parts_at p es 0)) in
    let later : parts p (amounts_with (drop 1 es) (lines_walk J on vs (drop 1 (parts Size es)))) ≡ each_projects (lines_walk J on vs (drop 1 (parts p es))) =
    ap (λ (l : List ℕ). parts p (amounts_with (drop 1 es) (lines_walk J on vs l))) (sym (parts_drop Size 1 es))
    ∙ each_walked p J on vs (drop 1 es) ∙ ap (λ (l : List ℕ). each_projects (lines_walk J on vs l)) (parts_drop p 1 es) in
    ap (λ (ls : List Line). parts p (amounts_with es ls)) (walk_more J next v vs (parts Size es))
    ∙ ap (parts p) (signs_cons es _ _) ∙ parts_cons p _ _ ∙ (λ i. here i ∷ later i)
    ∙ sym (ap each_projects (walk_more J next v vs (parts p es)))

pub each_part : (p : Part) (J start : ℕ) (ledger : List ℕ) (errors : List ℤ) →
    parts p (amounts_with errors (lines_with Size J start ledger errors)) ≡ each_projects (lines_with p J start ledger errors)
each_part p J start ledger errors =
    ap (λ (ls : List Line). parts p (amounts_with errors ls)) (lines_walked J start ledger (parts Size errors))
    ∙ each_walked p J start ledger errors ∙ sym (ap each_projects (lines_walked J start ledger (parts p errors)))

module _ (ledger : List ℕ) (n start : ℕ) (errors : List ℤ) where
  -- the refusals are the projection's
  pub project_lines_give : (beside : ℕ) → Gives project_numbers (project_lines_of ledger n start errors beside)
  unfolding project_lines_of
  project_lines_give beside = projected_gives ledger n start errors beside

  module _ (amounts : List ℤ) where
    abbrev beside : ℕ
    beside = length_beside (length ledger) (length errors) (length amounts)

    -- with amounts of the ledger's length, whatever the errors', the answer is the projection's
    pub answers_as_project : length amounts ≡ length ledger → project_lines_of ledger n start errors beside ≡ project_of ledger n start errors
    answers_as_project same =
        sym (projection_from ledger n start errors beside refl) ∙ project_from ledger n start errors (ap (figures_for ledger n start) (beside_is_errors _ _ _ same))

    -- 13 comes where either differs, after 2
    pub differ_refused : length ledger ≤ most_lines → ((length errors ≡ length ledger) × (length amounts ≡ length ledger) → ⊥) → refused 13 0 ≡ project_lines_of ledger n start errors beside
    differ_refused few differ =
        let judged = length_refused ledger beside few (λ e. differ (beside_same _ _ _ e)) in
        projection_from ledger n start errors beside (from_split ledger n start beside (from_ledger ledger n beside judged))

-- what an accepted call leaves and answers: what the lines of the projection project at the final interval, and what they add up to
pub record AmountsFacts (ledger : List ℕ) (n start : ℕ) (errors amounts : List ℤ) (p : Projection) (amounts' : List ℤ) : Type 0 where
  pub figures : Figures
  pub started : StartFacts ledger n start (length_beside (length ledger) (length errors) (length amounts)) figures
  pub projected : ProjectedFacts 0 figures.interval start ledger errors p
  pub written : amounts' ≡ amounts_with errors (lines_with Size figures.interval start ledger errors)

-- a refusal of the projection is one of its lines
lines_refuse : (ledger : List ℕ) (start : ℕ) (errors : List ℤ) (o : Outcome Figures) {number place : ℕ} → refused number place ≡ after (projected_by ledger start errors) o →
    after (λ f. checked_lines 0 f.interval start ledger (parts Size errors)) o ≡ refused number place
lines_refuse ledger start errors (accepted f) e = projection_refused 0 f.interval start ledger errors e
lines_refuse ledger start errors (refused k p) {number} {place} e =
    let n : k ≡ number = cc in
    let q : p ≡ place = cc in
    λ i. refused (n i) (q i)

module _ {ledger : List ℕ} {n start : ℕ} {errors amounts amounts' : List ℤ} where
  -- after a refusal the amounts are what they were
  pub refused_leaves : {why : Refusal} → LinesPromise ledger n start errors amounts (Err why) amounts' → amounts' ≡ amounts
  refused_leaves p =
      let judged = beside ledger n start errors amounts in
      let refuses = lines_refuse ledger start errors (figures_for ledger n start judged) (p.answer ∙ sym (projection_from ledger n start errors judged refl)) in
      p.amounts_left ∙ ap (left (amounts_with errors) amounts) (sym (lines_from_lem ledger n start errors judged refl) ∙ refuses)

  module _ {p : Projection} (promised : LinesPromise ledger n start errors amounts (Ok p) amounts') where
    pub amounts_facts : AmountsFacts ledger n start errors amounts p amounts'
    amounts_facts =
        let judged = beside ledger n start errors amounts in
        let a = after_accepted (projected_by ledger start errors) (figures_for ledger n start judged) p (projection_from ledger n start errors judged refl ∙ sym promised.answer) in
        let f : Figures = a.0 in
        let s = start_facts ledger n start judged f a.1 in
        let at = projected_facts 0 f.interval start ledger errors p s.early a.2 in
        record {
          figures = f;
          started = s;
          projected = at;
          written = promised.amounts_left ∙ ap (left (amounts_with errors) amounts) (sym (lines_from_lem ledger n start errors judged (sym a.1)) ∙ at.lines Size);
        }

    -- there is an entry for each line,
    pub amounts_length : length amounts' ≡ length ledger
    amounts_length =
        let J = amounts_facts.figures.interval in
        ap length amounts_facts.written ∙ each_length errors (lines_with Size J start ledger errors) ∙ lines_length J start ledger (parts Size errors)

    -- those of one part add to the two sums of its lines,
    of_part : (part : Part) → let own : Sums = sums_of (lines_with part amounts_facts.figures.interval start ledger errors) in sum (parts part amounts') ≡ own.full + own.sampled
    of_part part =
        let J = amounts_facts.figures.interval in
        ap (λ (l : List ℤ). sum (parts part l)) amounts_facts.written ∙ ap sum (each_part part J start ledger errors) ∙ each_adds (lines_with part J start ledger errors)

    pub overstated_add : sum (parts Overstated amounts') ≡ p.full + p.sampled
    overstated_add = of_part Overstated ∙ ap (λ (q : Projection). q.full + q.sampled) (sym amounts_facts.projected.answer)

    pub understated_add : sum (parts Understated amounts') ≡ p.under_full + p.under_sampled
    understated_add = of_part Understated ∙ ap (λ (q : Projection). q.under_full + q.under_sampled) (sym amounts_facts.projected.answer)

    -- and all of them, with their signs, to the net
    pub net_adds : net_of amounts' ≡ p.net
    net_adds =
        net_of_parts amounts' ∙ (λ i. pos (of_part Overstated i) -ℤ pos (of_part Understated i)) ∙ ap (λ (q : Projection). q.net) (sym amounts_facts.projected.answer)
