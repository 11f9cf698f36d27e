-- The draw by strata, as the loop that marks stratum by stratum meets it, and the answer. Assumes nothing.
use mathlib.Core.Path.{◌≡◌, refl, sym, ap, subst, ◌∙◌}
use Rattle.std.specs.Prelude.{Ok, Err}
use mathlib.Core.List.{List, [], ◌∷◌, ◌++◌, append_assoc, append-nil}
use Prim.Native.Nat.{ℕ, ◌+◌, ◌-◌, ◌^◌, ◌≤◌, ◌<◌}
use native.Mathlib.Omega.{arith}
use lib.ListN.{length, get_or, take, drop, length-append, length-drop}
use lib.Seq.{drop-drop, take_at, take_all, length-take-le}
use Rattle.terms.specs.declared.Refusal.{Refusal}
use Rattle.terms.specs.Outcome.{Outcome, accepted, after, left}
use Rattle.terms.specs.Limits.{most_strata}
use Rattle.terms.specs.Numbers.{pad_to}
use Rattle.draw.specs.Row.{draw_marks, ones}
use Rattle.draw.specs.Draw.{Markable, Marked}
use Rattle.draw.proofs.Laws.{draw_marks_lem, marks_length, ones_append, ones_most}
use Rattle.strata.specs.declared.Row.{Row}
use Rattle.strata.specs.declared.Planned.{Planned}
use Rattle.strata.specs.Strata.{parts_of, no_row, PlanPromise}
use Rattle.strata.specs.Starts.{started_of}
use Rattle.strata.proofs.Pieces.{sum_past, part_sum, here_at, Place, reach, place_next, parts_past, part_at, to_come, later_on, come_on, part_long}
use Rattle.strata.proofs.Padded.{padded_at, Alike, alike_later}
use Rattle.strata.proofs.Planning.{promised_rows, promised_refusal}
use Rattle.stratified.specs.Marks.{strata_marks, draw_strata_of, DrawStrataPromise, Underway, MarkedStrata}

draw_length : (J start : ℕ) (part : List ℕ) → length (draw_marks J start part) ≡ length part
draw_length J start part = ap length (draw_marks_lem J start part) ∙ marks_length J start 0 part

-- a stratum's interval
abbrev pub interval_at : List Row → ℕ → ℕ
interval_at rows h = (get_or rows h no_row).figures.interval

-- the definition, as the loop meets it
marks_on : (part : List ℕ) (parts : List (List ℕ)) (rows : List Row) (starts : List ℕ) (h : ℕ) →
    strata_marks (part ∷ parts) (drop h rows) (drop h starts) ≡ draw_marks (interval_at rows h) (get_or starts h 0) part ++ strata_marks parts (drop (h + 1) rows) (drop (h + 1) starts)
unfolding strata_marks
marks_on part parts rows starts h =
    λ i. draw_marks (here_at h rows no_row i).figures.interval (here_at h starts 0 i) part ++ strata_marks parts (drop-drop 1 h rows i) (drop-drop 1 h starts i)

marks_none : (rows : List Row) (starts : List ℕ) → strata_marks [] rows starts ≡ []
unfolding strata_marks
marks_none rows starts = refl

-- the marks of the strata to come
abbrev marks_to_come : List ℕ → List ℕ → List Row → List ℕ → ℕ → ℕ → List ℕ
marks_to_come ledger counts rows starts at h = strata_marks (to_come ledger counts at h) (drop h rows) (drop h starts)

-- the strata before h, which end at the line `at`, are marked
pub record Marking (ledger counts : List ℕ) (rows : List Row) (starts marks : List ℕ) (drawn at h : ℕ) : Type 0 where
  pub given : Underway ledger counts rows starts (length marks)
  pub place : Place ledger counts at h
  pub few : drawn ≤ at
  pub written : take at marks ++ marks_to_come ledger counts rows starts at h ≡ strata_marks (parts_of counts ledger) rows starts
  pub counted : drawn + ones (marks_to_come ledger counts rows starts at h) ≡ ones (strata_marks (parts_of counts ledger) rows starts)

module _ {ledger counts : List ℕ} {rows : List Row} {starts marks : List ℕ} {drawn at h : ℕ} (so_far : Marking ledger counts rows starts marks drawn at h) where
  module _ (inside : h < length counts) where
    far : at + get_or counts h 0 ≤ length ledger
    far = reach so_far.place inside

    pub marks_far : at + get_or counts h 0 ≤ length marks
    marks_far = omega (arith, far, so_far.given.same)

    pub marking_markable : Markable (interval_at rows h) (part_at ledger counts at h)
    marking_markable =
        let m = so_far.given.parted.most in
        record { summed = omega (arith, part_sum (at + get_or counts h 0 - at) at ledger); narrow = so_far.given.narrow h }

    pub marking_same : length (part_at marks counts at h) ≡ length (part_at ledger counts at h)
    marking_same = part_long marks counts at h marks_far ∙ sym (part_long ledger counts at h far)

    module _ {d : ℕ} {own : List ℕ} (m : Marked (interval_at rows h) (get_or starts h 0) (part_at ledger counts at h) d own) where
      own_long : length own ≡ get_or counts h 0
      own_long = ap length m.marks ∙ draw_length (interval_at rows h) (get_or starts h 0) (part_at ledger counts at h) ∙ part_long ledger counts at h far

      own_count : d ≡ ones own
      own_count = m.count ∙ sym (ap ones m.marks)

      pub marking_fits : length ledger < 2 ^ 64 → drawn + d < 2 ^ 64
      marking_fits small = let f = so_far.few in omega (arith, own_count, ones_most own, own_long, far)

      abbrev later : List ℕ
      later = strata_marks (later_on ledger counts at h) (drop (h + 1) rows) (drop (h + 1) starts)

      -- what was to come is the stratum's own marks and those of the later strata
      come_marks : marks_to_come ledger counts rows starts at h ≡ own ++ later
      come_marks =
          ap (λ (l : List (List ℕ)). strata_marks l (drop h rows) (drop h starts)) (come_on ledger counts at h inside)
          ∙ marks_on (part_at ledger counts at h) (later_on ledger counts at h) rows starts h
          ∙ ap (λ (l : List ℕ). l ++ later) (sym m.marks)

      pub marking_next : Marking ledger counts rows starts (take at marks ++ (own ++ drop (at + get_or counts h 0 - at) (drop at marks))) (drawn + d) (at + get_or counts h 0) (h + 1)
      marking_next =
          let k : ℕ = at + get_or counts h 0 - at in
          let rest : List ℕ = drop k (drop at marks) in
          let f = so_far.few in
          let w = marks_far in
          let front : length (take at marks) ≡ at = length-take-le at marks (omega arith) in
          let both : List ℕ = take at marks ++ own in
          let both_long : length both ≡ at + get_or counts h 0 = omega (arith, length-append (take at marks) own, own_long, front) in
          let first : take (at + get_or counts h 0) (take at marks ++ (own ++ rest)) ≡ both =
          ap (take (at + get_or counts h 0)) (sym (append_assoc (take at marks) own rest)) ∙ take_at both rest (at + get_or counts h 0) both_long in
          let long : length (take at marks ++ (own ++ rest)) ≡ length marks =
          omega (arith, length-append (take at marks) (own ++ rest), length-append own rest, own_long, front, length-drop k (drop at marks), length-drop at marks) in
          record {
            given = subst (Underway ledger counts rows starts) (sym long) so_far.given;
            place = place_next so_far.place inside;
            few = omega (arith, own_count, ones_most own, own_long);
            written = ap (λ (l : List ℕ). l ++ later) first ∙ append_assoc (take at marks) own later ∙ ap (λ (l : List ℕ). take at marks ++ l) (sym come_marks) ∙ so_far.written;
            counted = omega (arith, own_count, ones_append own later, ap ones come_marks, so_far.counted);
          }

  module _ (end : length counts ≤ h) where
    none_come : marks_to_come ledger counts rows starts at h ≡ []
    none_come = ap (λ (l : List (List ℕ)). strata_marks l (drop h rows) (drop h starts)) (parts_past ledger counts at h end) ∙ marks_none (drop h rows) (drop h starts)

    pub marking_end : MarkedStrata (parts_of counts ledger) rows starts drawn marks
    marking_end =
        let r = so_far.place.rest in
        let s = so_far.given.same in
        record {
          marks =
              sym (take_all at marks (omega (arith, sum_past counts h end))) ∙ sym (append-nil (take at marks)) ∙ ap (λ (l : List ℕ). take at marks ++ l) (sym none_come) ∙ so_far.written;
          count = omega (arith, so_far.counted, ap ones none_come, ones_most []);
        }

-- the marks read the rows by their entries
marks_alike : (parts : List (List ℕ)) (rows others : List Row) (starts : List ℕ) → Alike no_row rows others → strata_marks parts rows starts ≡ strata_marks parts others starts
unfolding strata_marks
marks_alike [] rows others starts same = refl
marks_alike (part ∷ parts) rows others starts same =
    λ i. draw_marks (same 0 i).figures.interval (get_or starts 0 0) part ++ marks_alike parts (drop 1 rows) (drop 1 others) (drop 1 starts) (alike_later no_row rows others same) i

-- the answer, as `draw_strata` meets it
module _ (ledger counts : List ℕ) (n : ℕ) (starts marks : List ℕ) where
  abbrev marks_in : List Row → List ℕ
  marks_in rows = strata_marks (parts_of counts ledger) rows starts

  abbrev started : Outcome (List Row)
  started = started_of ledger counts n starts (length marks)

  from_started : after (λ rows. accepted (ones (marks_in rows))) started ≡ draw_strata_of ledger counts n starts (length marks)
  unfolding draw_strata_of
  from_started = refl

  pub strata_refused : (why : Refusal) → PlanPromise (started_of ledger counts n starts (length marks)) (Err why) → DrawStrataPromise ledger counts n starts marks (Err why) marks
  strata_refused why m =
      let e = promised_refusal started why m in
      record { answer = sym (ap (after (λ rows. accepted (ones (marks_in rows)))) e) ∙ from_started; marks_left = sym (ap (left marks_in marks) e) }

  pub strata_drawn : {p : Planned} {drawn : ℕ} {marks' : List ℕ} → PlanPromise (started_of ledger counts n starts (length marks)) (Ok p) → MarkedStrata (parts_of counts ledger) p.rows starts drawn marks' →
      DrawStrataPromise ledger counts n starts marks (Ok drawn) marks'
  strata_drawn {p} m by =
      let o = promised_rows started m in
      let rows : List Row = o.0 in
      let own : marks_in p.rows ≡ marks_in rows =
      ap (λ (q : Planned). marks_in q.rows) o.1.1 ∙ marks_alike (parts_of counts ledger) (pad_to most_strata no_row rows) rows starts (padded_at no_row most_strata rows) in
      record {
        answer = ap accepted (by.count ∙ ap ones own) ∙ sym (ap (after (λ rows. accepted (ones (marks_in rows)))) o.1.0) ∙ from_started;
        marks_left = by.marks ∙ own ∙ sym (ap (left marks_in marks) o.1.0);
      }
