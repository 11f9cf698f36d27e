-- What `parse` promises, from its test of the rooms and its two passes. Assumes nothing.
use mathlib.Core.Path.{◌≡◌, refl, sym, ap, ◌∙◌}
use mathlib.Core.Bool.{Bool, true, false}
use mathlib.Core.List.{List}
use lib.IntN.{ℤ}
use Prim.Native.Nat.{ℕ}
use lib.Dec.{ltb}
use lib.ListN.{length}
use borrow.Author.Tests.{ltb-false, leb-true}
use Rattle.std.specs.Prelude.{Result, Err}
use Rattle.terms.specs.Numbers.{pick}
use Rattle.terms.proofs.Tests.{by_test}
use Rattle.workfile.specs.Content.{Content, most_words, most_file_lines}
use Rattle.workfile.specs.Promises.{Rooms, counted}
use Rattle.workfile.specs.declared.Contents.{Contents}
use Rattle.entry.specs.declared.Notation.{Notation}
use Rattle.entry.specs.declared.Wrong.{Wrong}
use Rattle.entry.specs.declared.Wrong.TheVariants.{NoRoom}
use Rattle.records.proofs.Judging.{clash}
use Rattle.notation.specs.Contents.{Reading, says, faulty, text_of}
use Rattle.notation.specs.Parse.{reading_counts, left_over, room_for, parse_of, ParsePromise}
use Rattle.notation.specs.Steps.{OnePass}
use Rattle.notation.specs.declared.Fault.{Fault}

pub has_rooms : (w v : List ℕ) (e : List ℤ) → room_for (length w) (length v) (length e) ≡ true → Rooms w v e
unfolding room_for
has_rooms w v e =
    by_test Enough (ltb (length w) most_words) (λ _ q. clash (cc))
    (λ a. by_test Enough (ltb (length v) most_file_lines) (λ _ q. clash (cc)) (λ b q. record { words = ltb-false _ _ a; values = ltb-false _ _ b; errors = leb-true _ _ q }))
  where
    Enough : Bool → Type 0
    Enough t = t ≡ true → Rooms w v e

-- what a reading with counts was read from
pub was_said : (o : Reading Content) {k : Contents} → reading_counts o ≡ says k → (c : Content) × (o ≡ says c) × (counted c ≡ k)
was_said (says c) e = (c, refl, cc)
was_said (faulty wrong line) e = clash (cc)

-- and a fault
pub was_faulty : (o : Reading Content) {wrong : Wrong} {line : ℕ} → reading_counts o ≡ faulty wrong line → o ≡ faulty wrong line
was_faulty (says c) e = clash (cc)
was_faulty (faulty other place) {wrong} {line} e =
    let w : other ≡ wrong = cc in
    let l : place ≡ line = cc in
    λ i. faulty (w i) (l i)

-- the test of the rooms
pub rooms : {w v : List ℕ} {e : List ℤ} {enough : Bool} → enough ≡ room_for (length w) (length v) (length e) → enough ≡ true → Rooms w v e
rooms {w} {v} {e} {enough} test room = has_rooms w v e (sym test ∙ room)

module _ (by : Notation) (text w v : List ℕ) (e : List ℤ) {enough : Bool} (test : enough ≡ room_for (length w) (length v) (length e)) where
  -- a fault leaves the buffers
  left_alone : {wrong : Wrong} {line : ℕ} → parse_of by text (length w) (length v) (length e) ≡ faulty wrong line → ParsePromise by text w v e (Err (record { line = line; wrong = wrong })) w v e
  left_alone q =
      record {
        answer = sym (ap reading_counts q);
        words_left = sym (ap (left_over (λ c. c.words) w) q);
        values_left = sym (ap (left_over (λ c. c.values) v) q);
        errors_left = sym (ap (left_over (λ c. c.errors) e) q);
      }

  decided : (b : Bool) → enough ≡ b → parse_of by text (length w) (length v) (length e) ≡ pick b (text_of by text) (faulty NoRoom 0)
  unfolding parse_of
  decided b q = ap (λ (b : Bool). pick b (text_of by text) (faulty NoRoom 0)) (sym test ∙ q)

  pub no_room : enough ≡ false → ParsePromise by text w v e (Err (record { line = 0; wrong = NoRoom })) w v e
  no_room q = left_alone (decided false q)

  module _ (room : enough ≡ true) where
    roomed : parse_of by text (length w) (length v) (length e) ≡ text_of by text
    roomed = decided true room

    pub found_faulty : {fault : Fault} → faulty fault.wrong fault.line ≡ reading_counts (text_of by text) → ParsePromise by text w v e (Err fault) w v e
    found_faulty {fault} first = left_alone (roomed ∙ was_faulty (text_of by text) (sym first))

    pub found_whole : {contents : Contents} → says contents ≡ reading_counts (text_of by text) → {w' v' : List ℕ} {e' : List ℤ} {r : Result Contents Fault} → OnePass by text w v e r w' v' e'
        → ParsePromise by text w v e r w' v' e'
    found_whole first second =
        let said = was_said (text_of by text) (sym first) in
        let kept = second.kept said.0 said.1 in
        let same = sym said.1 ∙ sym roomed in
        record {
          answer = second.answer ∙ ap reading_counts (sym roomed);
          words_left = kept.0 ∙ ap (left_over (λ c. c.words) w) same;
          values_left = kept.1 ∙ ap (left_over (λ c. c.values) v) same;
          errors_left = kept.2 ∙ ap (left_over (λ c. c.errors) e) same;
        }
