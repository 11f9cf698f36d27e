-- A change and an append from their parts, where the shape is accepted. Assumes nothing.
use Prim.Native.Nat.{ℕ, ◌+◌, ◌/◌, ◌<◌}
use Rattle.std.specs.Prelude.{Ok}
use mathlib.Core.Path.{◌≡◌, refl, sym, ap, ◌∙◌}
use mathlib.Core.List.{List}
use borrow.Author.Tests.{lt-ltb, ltb-true}
use lib.Dec.{ltb}
use lib.ListN.{length, get_or, set}
use Rattle.terms.specs.Outcome.{Outcome, accepted, refused, after, left}
use Rattle.terms.specs.Numbers.{pick}
use Rattle.terms.specs.Limits.{most_lines}
use Rattle.terms.proofs.Outcomes.{never, after_accepted}
use Rattle.terms.proofs.Tests.{by_test}
use Rattle.totals.specs.Summary.{blocks, shape_of}
use Rattle.totals.proofs.Shapes.{judged_shape}
use Rattle.upkeep.specs.declared.NewFigures.{NewFigures}
use Rattle.upkeep.specs.Upkeep.{value_judged, both_moved, changed_to, appended_to, change_of, most_before, append_of, line_set, figures_set, ChangePromise, AppendPromise}

-- what is written where the shape fits
written : (room : ℕ) (summary : List ℕ) (line many : ℕ) (new : NewFigures) → many ≡ blocks room →
    set (set summary (line / 256) new.figure) many new.grand ≡ figures_set room summary line new
unfolding figures_set
written room summary line many new e = ap (λ (n : ℕ). set (set summary (line / 256) new.figure) n new.grand) e

set_line : (room : List ℕ) (line value : ℕ) (new : NewFigures) → set room line value ≡ line_set room line value new
unfolding line_set
set_line room line value new = refl

-- the change, from the shape on
module _ (room : List ℕ) (count many : ℕ) (summary : List ℕ) (line value : ℕ) (shape : accepted many ≡ shape_of most_lines count (length room) (length summary)) (used : line < count) where
  pub change_seen : {o : Outcome NewFigures} → o ≡ changed_to line value (get_or room line 0) many (get_or summary (line / 256) 0) (get_or summary many 0) →
      o ≡ change_of room count summary line value
  unfolding change_of
  change_seen e =
      let to : ℕ → Outcome NewFigures = λ many. changed_to line value (get_or room line 0) many (get_or summary (line / 256) 0) (get_or summary many 0) in
      let here : pick (ltb line count) (to many) (refused 20 0) ≡ to many = simp (lt-ltb _ _ used) in
      e ∙ sym here ∙ ap (after (λ many. pick (ltb line count) (to many) (refused 20 0))) shape

  pub change_made : (new : NewFigures) → accepted new ≡ changed_to line value (get_or room line 0) many (get_or summary (line / 256) 0) (get_or summary many 0) →
      ChangePromise room count summary line value (Ok new.grand) (set room line value) (set (set summary (line / 256) new.figure) many new.grand)
  change_made new told =
      let e = change_seen told in
      record {
        answer = ap (after (λ new. accepted new.grand)) e;
        room_left = set_line room line value new ∙ ap (left (line_set room line value) room) e;
        summary_left = written (length room) summary line many new (judged_shape shape).are ∙ ap (left (figures_set (length room) summary line) summary) e;
      }

-- an append that is accepted finds room
append_room : (count room value many figure grand : ℕ) (new : NewFigures) → accepted new ≡ appended_to count room value many figure grand → count < room
unfolding appended_to
append_room count room value many figure grand new e =
    let a = after_accepted (λ v. pick (ltb count room) (both_moved count v 0 many figure grand) (refused 18 (count + 1))) (value_judged count value 0 grand) new (sym e) in
    by_test (λ o. o ≡ accepted new → count < room) (ltb count room) (λ p f. ltb-true count room p) (λ p f. never f) a.2

-- the append, from the shape on
module _ (room : List ℕ) (count many : ℕ) (summary : List ℕ) (shape : accepted many ≡ shape_of most_before count (length room) (length summary)) where
  module _ (value : ℕ) where
    pub append_seen : {o : Outcome NewFigures} → o ≡ appended_to count (length room) value many (get_or summary (count / 256) 0) (get_or summary many 0) →
        o ≡ append_of room count summary value
    unfolding append_of
    append_seen e = e ∙ ap (after (λ many. appended_to count (length room) value many (get_or summary (count / 256) 0) (get_or summary many 0))) shape

    module _ (new : NewFigures) (told : accepted new ≡ appended_to count (length room) value many (get_or summary (count / 256) 0) (get_or summary many 0)) where
      pub room_inside : count < length room
      room_inside = append_room count (length room) value many (get_or summary (count / 256) 0) (get_or summary many 0) new told

      pub append_made : AppendPromise room count summary value (Ok (count + 1)) (set room count value) (set (set summary (count / 256) new.figure) many new.grand)
      append_made =
          let e = append_seen told in
          record {
            answer = ap (after (λ new. accepted (count + 1))) e;
            room_left = set_line room count value new ∙ ap (left (line_set room count value) room) e;
            summary_left = written (length room) summary count many new (judged_shape shape).are ∙ ap (left (figures_set (length room) summary count) summary) e;
          }
