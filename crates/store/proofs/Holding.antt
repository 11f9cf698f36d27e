-- The buffers of a pass that stores record by record: they hold the content so far, laid over what they held. Assumes nothing.
use Prim.Native.Nat.{ℕ, ◌≤◌}
use mathlib.Core.Path.{◌≡◌, refl, ap, ap₂, subst, sym, ◌∙◌}
use mathlib.Core.List.{List}
use native.Mathlib.Omega.{arith}
use lib.ListN.{length, set}
use lib.IntN.{ℤ}
use Rattle.signed.specs.Errors.{signed_of}
use Rattle.workfile.specs.Content.{Content, most_words, most_file_lines}
use Rattle.workfile.specs.Decode.{tally_of, grow, pad_to, start}
use Rattle.workfile.specs.Rules.{Rule}
use Rattle.workfile.specs.Promises.{over, Rooms}
use Rattle.workfile.specs.declared.Plan.{Plan}
use Rattle.workfile.specs.declared.Tally.{Tally}
use Rattle.workfile.specs.declared.FileRecord.{FileRecord}
use Rattle.workfile.specs.declared.FileRecord.TheVariants.{Word, Value, ErrorOf, End, Nothing}
use Rattle.workfile.proofs.Lists.{length_pad, over_more, length_over}
use Rattle.workfile.proofs.Growing.{SoFar, at_first, one_more}
use Rattle.records.specs.Judging.{tallied}
use Rattle.records.proofs.Counting.{tally_grow}
use Rattle.store.specs.Storing.{put_words, put_values, put_errors, Put, HasPlace}
use Rattle.store.proofs.Placing.{over_zeroed}

-- a content over the buffers, with one record more
module _ (c : Content) (so_far : SoFar c) where
  words_grow : (r : FileRecord) (old : List ℕ) → Rule (tally_of c) r → most_words ≤ length old → put_words (tally_of c) r (over c.words old) ≡ over (grow c r).words old
  unfolding grow
  words_grow (Word w) old h k = over_more c.words old w (omega (arith, h.1))
  words_grow (Value v) old h k = refl
  words_grow (ErrorOf u l n) old h k = refl
  words_grow (End n s) old h k = refl
  words_grow Nothing old h k = refl

  values_grow : (r : FileRecord) (old : List ℕ) → Rule (tally_of c) r → most_file_lines ≤ length old → put_values (tally_of c) r (over c.values old) ≡ over (grow c r).values old
  unfolding grow
  values_grow (Word w) old h k = refl
  values_grow (Value v) old h k = over_more c.values old v (omega (arith, h.1.0))
  values_grow (ErrorOf u l n) old h k = refl
  values_grow (End n s) old h k = refl
  values_grow Nothing old h k = refl

  errors_grow : (r : FileRecord) (old : List ℤ) → Rule (tally_of c) r → most_file_lines ≤ length old → put_errors (tally_of c) r (over c.errors old) ≡ over (grow c r).errors old
  unfolding grow
  errors_grow (Word w) old h k = refl
  errors_grow (Value v) old h k = refl
  errors_grow (ErrorOf u l n) old h k =
      let long : length (pad_to l c.errors) ≡ l = length_pad l c.errors h.0 in
      ap₂ (λ (y : List ℤ) (i : ℕ). set y i (signed_of n u)) (over_zeroed c.errors old l h.0) (sym long)
      ∙ over_more (pad_to l c.errors) old (signed_of n u) (omega (arith, h.1.0, so_far.few_lines))
  errors_grow (End n t) old h k = over_zeroed c.errors old n (omega (arith, h.0, so_far.sound))
  errors_grow Nothing old h k = refl

-- the content c, counted as t, stands in the buffers w, v and e, which held ws, vs and es
pub record Holds (c : Content) (t : Tally) (ws vs : List ℕ) (es : List ℤ) (w v : List ℕ) (e : List ℤ) : Type 0 where
  pub tally : tally_of c ≡ t
  pub so_far : SoFar c
  pub words : w ≡ over c.words ws
  pub values : v ≡ over c.values vs
  pub errors : e ≡ over c.errors es

-- the same lengths as before
pub record Lengths (ws vs : List ℕ) (es : List ℤ) (w v : List ℕ) (e : List ℤ) : Type 0 where
  pub words : length w ≡ length ws
  pub values : length v ≡ length vs
  pub errors : length e ≡ length es

-- before the first record
pub holds_none : {p : Plan} {ws vs : List ℕ} {es : List ℤ} → Holds (start p) (tally_of (start p)) ws vs es ws vs es
holds_none {p} = record { tally = refl; so_far = at_first p; words = refl; values = refl; errors = refl }

module _ {c : Content} {t : Tally} {ws vs w v : List ℕ} {es e : List ℤ} (held : Holds c t ws vs es w v e) (rooms : Rooms ws vs es) where
  pub lengths : Lengths ws vs es w v e
  lengths =
      let f = held.so_far in
      record {
        words = ap length held.words ∙ length_over c.words ws (omega (arith, rooms.words, f.few_words));
        values = ap length held.values ∙ length_over c.values vs (omega (arith, rooms.values, f.few_lines));
        errors = ap length held.errors ∙ length_over c.errors es (omega (arith, rooms.errors, f.few_lines, f.sound));
      }

  pub rooms_left : Rooms w v e
  rooms_left =
      let l = lengths in
      record { words = omega (arith, l.words, rooms.words); values = omega (arith, l.values, rooms.values); errors = omega (arith, l.errors, rooms.errors) }

  module _ {r : FileRecord} (rule : Rule t r) where
    -- what storing asks
    pub has_place : HasPlace t r w v e
    has_place =
        let k = held.so_far in
        let n = subst (λ (u : Tally). (u.next_line ≤ u.lines) × (u.lines ≤ most_file_lines)) held.tally (k.sound, k.few_lines) in
        record { rooms = rooms_left; rule = rule; sound = n.0; few_lines = n.1 }

    -- what it leaves: the content with the record
    pub holds_more : {w' v' : List ℕ} {e' : List ℤ} → Put t r w v e w' v' e' → Holds (grow c r) (tallied t r) ws vs es w' v' e'
    holds_more {w'} {v'} {e'} stored =
        let h : Rule (tally_of c) r = subst (λ (u : Tally). Rule u r) (sym held.tally) rule in
        let q : Put (tally_of c) r w v e w' v' e' = subst (λ (u : Tally). Put u r w v e w' v' e') (sym held.tally) stored in
        let k = held.so_far in
        record {
          tally = tally_grow c r k h ∙ ap (λ (u : Tally). tallied u r) held.tally;
          so_far = one_more c r h k;
          words = q.words ∙ ap (put_words (tally_of c) r) held.words ∙ words_grow c k r ws h rooms.words;
          values = q.values ∙ ap (put_values (tally_of c) r) held.values ∙ values_grow c k r vs h rooms.values;
          errors = q.errors ∙ ap (put_errors (tally_of c) r) held.errors ∙ errors_grow c k r es h rooms.errors;
        }
