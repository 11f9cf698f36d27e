-- The marks of the split and of the draw, written into the own bits line by line. Assumes nothing.
use Prim.Native.Nat.{ℕ, ◌+◌, ◌≤◌, ◌<◌, zero-le}
use native.Mathlib.Numerals.{add-one}
use native.Mathlib.Omega.{arith}
use mathlib.Core.Path.{◌≡◌, refl, sym, ap, subst, ◌∙◌}
use mathlib.Core.List.{List, [], ◌∷◌}
use lib.Dec.{eqb}
use lib.ListN.{length, get_or, drop, set, length-set, drop_of_length-le}
use lib.Seq.{drop-cons}
use Rattle.terms.specs.Numbers.{pick}
use Rattle.bits.specs.declared.Bits.{Bits}
use Rattle.bits.specs.Own.{with_own, with_bits}
use Rattle.bits.proofs.Writing.{Writing, writing_none, writing_more, writing_end}
use Rattle.split.specs.Split.{full_mark, full_marks}
use Rattle.draw.specs.Row.{cents, marks_from, draw_marks, ones}
use Rattle.walk.specs.Walk.{ahead_after}
use Rattle.walk.proofs.Walk.{Next, next_start, stepped}
use Rattle.teams.specs.Teams.{mark_at, OwnMarked}

-- the split's marks before a line are written
pub record OwnFilling (bits : Bits) (J : ℕ) (ledger marks₀ marks : List ℕ) (line : ℕ) : Type 0 where
  pub inside : line ≤ length ledger
  pub same : length marks ≡ length ledger
  pub writing : Writing bits (with_bits bits marks₀ (full_marks J ledger)) marks line (full_marks J (drop line ledger))

module _ {bits : Bits} {J : ℕ} {ledger marks₀ marks : List ℕ} {line : ℕ} (at : OwnFilling bits J ledger marks₀ marks line) where
  pub filling_more : line < length ledger → (own : ℕ) {mark : ℕ} → own ≡ full_mark J (get_or ledger line 0) → mark ≡ with_own bits (get_or marks line 0) own →
      OwnFilling bits J ledger marks₀ (set marks line mark) (line + 1)
  unfolding full_marks
  filling_more more own {mark} e is =
      let on : full_marks J (drop line ledger) ≡ own ∷ full_marks J (drop (line + 1) ledger) =
      ap (full_marks J) (drop-cons ledger line 0 more) ∙ (λ i. sym e i ∷ full_marks J (drop (sym (add-one line) i) ledger)) in
      record { inside = omega arith; same = length-set marks line mark ∙ at.same; writing = writing_more at.writing own _ (omega (arith, at.same)) on is }

  pub filling_end : length ledger ≤ line → marks ≡ with_bits bits marks₀ (full_marks J ledger)
  filling_end h = writing_end at.writing (omega (arith, at.same))

-- the draw's marks, by the distance to the next drawing point
unfoldable pub marks_walk : ℕ → ℕ → List ℕ → List ℕ
marks_walk J next [] = []
marks_walk J next (value ∷ later) = mark_at J next value ∷ marks_walk J (ahead_after J next value) later

walked : (J s o d : ℕ) (vs : List ℕ) → Next J s o d → marks_from J s o vs ≡ marks_walk J d vs
unfolding marks_from marks_walk mark_at
walked J s o d [] at = refl
walked J s o d (v ∷ vs) at = let by = stepped J s o d v at in λ i. by.same 2 1 0 i ∷ walked J s (o + cents J v) (ahead_after J d v) vs by.next i

marks_walked : (J s : ℕ) (ledger : List ℕ) → draw_marks J s ledger ≡ marks_walk J s ledger
unfolding draw_marks
marks_walked J s ledger = walked J s 0 s ledger (next_start J s)

-- the draw's marks before a line are written, `drawn` of them are 1, and the next drawing point is `next` cents on
pub record OwnMarking (bits : Bits) (J start : ℕ) (ledger marks₀ marks : List ℕ) (line next drawn : ℕ) : Type 0 where
  pub inside : line ≤ length ledger
  pub same : length marks ≡ length ledger
  pub few : drawn ≤ line
  pub writing : Writing bits (with_bits bits marks₀ (draw_marks J start ledger)) marks line (marks_walk J next (drop line ledger))
  pub counted : drawn + ones (marks_walk J next (drop line ledger)) ≡ ones (draw_marks J start ledger)

pub marking_none : {bits : Bits} {J start : ℕ} {ledger marks : List ℕ} → length marks ≡ length ledger → OwnMarking bits J start ledger marks marks 0 start 0
marking_none {bits} {J} {start} {ledger} {marks} same =
    let walk = sym (marks_walked J start ledger) in
    record {
      inside = zero-le;
      same = same;
      few = zero-le;
      writing = subst (λ (l : List ℕ). Writing bits (with_bits bits marks l) marks 0 (marks_walk J start ledger)) walk (writing_none bits marks (marks_walk J start ledger));
      counted = omega (arith, ap ones walk);
    }

module _ {bits : Bits} {J start : ℕ} {ledger marks₀ marks : List ℕ} {line next drawn : ℕ} (at : OwnMarking bits J start ledger marks₀ marks line next drawn) where
  module _ (more : line < length ledger) where
    marks_on : marks_walk J next (drop line ledger)
        ≡ mark_at J next (get_or ledger line 0) ∷ marks_walk J (ahead_after J next (get_or ledger line 0)) (drop (line + 1) ledger)
    unfolding marks_walk
    marks_on =
        let v = get_or ledger line 0 in
        ap (marks_walk J next) (drop-cons ledger line 0 more) ∙ (λ i. mark_at J next v ∷ marks_walk J (ahead_after J next v) (drop (sym (add-one line) i) ledger))

    pub marking_more : (own : ℕ) {mark one next' : ℕ} → own ≡ mark_at J next (get_or ledger line 0) →
        mark ≡ with_own bits (get_or marks line 0) own → one ≡ pick (eqb own 1) 1 0 → one < 2 → next' ≡ ahead_after J next (get_or ledger line 0) →
        OwnMarking bits J start ledger marks₀ (set marks line mark) (line + 1) next' (drawn + one)
    unfolding ones
    marking_more own {mark} {one} {next'} e is adds small moved =
        let on : marks_walk J next (drop line ledger) ≡ own ∷ marks_walk J next' (drop (line + 1) ledger) =
        marks_on ∙ (λ i. sym e i ∷ marks_walk J (sym moved i) (drop (line + 1) ledger)) in
        record {
          inside = omega arith;
          same = length-set marks line mark ∙ at.same;
          few = omega (arith, at.few);
          writing = writing_more at.writing own _ (omega (arith, at.same)) on is;
          counted = omega (arith, at.counted, ap ones on, adds);
        }

  pub marking_end : length ledger ≤ line → OwnMarked bits J start ledger marks₀ drawn marks
  unfolding marks_walk ones
  marking_end h =
      let none : ones (marks_walk J next (drop line ledger)) ≡ 0 = ap (λ (l : List ℕ). ones (marks_walk J next l)) (drop_of_length-le ledger h) in
      record { written = writing_end at.writing (omega (arith, at.same)); count = omega (arith, at.counted, none) }
