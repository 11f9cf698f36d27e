-- The text of the ledger's lines, as a loop writes it that goes by the marks of the walk. Assumes nothing.
use Prim.Native.Nat.{ℕ, ◌+◌, ◌≤◌, ◌<◌, zero-le}
use native.Mathlib.Numerals.{add-one}
use native.Mathlib.Omega.{arith}
use mathlib.Core.Path.{◌≡◌, refl, sym, ap, ◌∙◌, subst}
use mathlib.Core.List.{List, [], ◌++◌}
use lib.IntN.{ℤ, pos}
use lib.ListN.{length, get_or, drop, drop_of_length-le}
use lib.Seq.{drop-drop, get_or-drop}
use lib.Signed.{lt_z}
use mir.Syntax.{w64}
use mir.Val.{SFits}
use Rattle.signed.specs.declared.Part.TheVariants.{Size}
use Rattle.signed.specs.Errors.{size_of, is_under}
use Rattle.signed.specs.Parts.{part_of, parts}
use Rattle.signed.proofs.Laws.{part_is_size, parts_at}
use Rattle.signed.proofs.Signs.{held, kept, kind_read, size_read}
use Rattle.pen.specs.Page.{page, write, Wrote}
use Rattle.pen.proofs.Writing.{Left, left_more, left_none, as_text}
use Rattle.project.specs.declared.Line.{Line}
use Rattle.project.specs.Project.{lines_with}
use Rattle.project.proofs.Lines.{lines_length}
use Rattle.blackboard.specs.declared.Walker.{Walker}
use Rattle.blackboard.specs.Board.{board_marks}
use Rattle.blackboard.specs.Steps.{mark_where, walker_at, walker_after}
use Rattle.blackboard.proofs.Standing.{Standing, standing_first, standing_on, standing_mark, standing_drawn}
use Rattle.boardjudge.specs.Marked.{marked_line, MarkFits, Walkable}
use Rattle.boardjudge.proofs.Marks.{line_on}
use Rattle.steps.specs.Steps.{Shown}
use Rattle.sheet.specs.Lines.{item_text, items_text, ledger_text}

-- one line, as `walked_line` meets its error
module _ (J v : ℕ) (e : ℤ) (mark : ℕ) {size : ℕ} (fits : SFits w64 e) (told : size ≡ size_of (held e)) where
  pub size_fits : MarkFits J v (size_of e) mark → MarkFits J v size mark
  size_fits m = record { narrow = m.narrow; within = omega (arith, size_read e fits.sfits told, m.within); some = m.some }

  pub marked_written : (item : ℕ) {l : Line} {old new : List ℕ} {at to : ℕ} → l ≡ marked_line J v size mark → Wrote old at (item_text item (lt_z (held e) (pos 0)) l) new to →
      Wrote old at (item_text item (is_under e) (marked_line J v (part_of Size e) mark)) new to
  marked_written item is wrote =
      let same : marked_line J v (part_of Size e) mark ≡ _ = sym (is ∙ ap (λ (x : ℕ). marked_line J v x mark) (size_read e fits.sfits told ∙ sym (part_is_size e))) in
      as_text (λ i. item_text item (kind_read e fits.sfits refl i) (same i)) wrote

-- the text of the lines from an item on
abbrev pub walked_rest : ℕ → ℕ → List ℕ → List ℤ → ℕ → List ℕ
walked_rest J start ledger errors item = items_text (drop item errors) item (drop item (lines_with Size J start ledger errors))

module _ (J start : ℕ) (ledger : List ℕ) (errors : List ℤ) where
  walked_all_left : ledger_text 0 J start ledger errors ≡ walked_rest J start ledger errors 0
  unfolding ledger_text
  walked_all_left = refl

  walked_on : (item : ℕ) → item < length ledger → {mark : ℕ} → get_or (board_marks J start ledger) item 0 ≡ mark →
      let e = get_or errors item (pos 0) in
      walked_rest J start ledger errors item ≡ item_text item (is_under e) (marked_line J (get_or ledger item 0) (part_of Size e) mark) ++ walked_rest J start ledger errors (item + 1)
  unfolding items_text
  walked_on item more {mark} marked =
      let here : item + 0 ≡ item = omega arith in
      let own : get_or (drop item errors) 0 (pos 0) ≡ get_or errors item (pos 0) = get_or-drop item errors 0 (pos 0) ∙ ap (λ (k : ℕ). get_or errors k (pos 0)) here in
      ap (items_text (drop item errors) item) (line_on Size J start ledger errors item more marked)
      ∙ (λ k. item_text item (is_under (own k)) (marked_line J (get_or ledger item 0) (part_of Size (get_or errors item (pos 0))) mark)
      ++ items_text (drop-drop 1 item errors k) (sym (add-one item) k) (drop (item + 1) (lines_with Size J start ledger errors)))

  walked_none : (item : ℕ) → length ledger ≤ item → walked_rest J start ledger errors item ≡ []
  unfolding items_text
  walked_none item h =
      let past : length (lines_with Size J start ledger errors) ≤ item = omega (arith, lines_length J start ledger (parts Size errors)) in
      ap (items_text (drop item errors) item) (drop_of_length-le (lines_with Size J start ledger errors) past)

-- the lines before an item are written, the others are left to write, and the walk stands beside them
pub record Walked (J start : ℕ) (ledger : List ℕ) (errors : List ℤ) (old : List ℕ) (at : ℕ) (new : List ℕ) (to : ℕ) (walker : Walker) (item : ℕ) : Type 0 where
  pub given : Walkable J start ledger errors
  pub inside : item ≤ length ledger
  pub stands : Standing J start ledger item walker
  pub left : Left old at (ledger_text 0 J start ledger errors) new to (walked_rest J start ledger errors item)

pub walked_first : {J start : ℕ} {ledger : List ℕ} {errors : List ℤ} (old : List ℕ) (at : ℕ) {walker : Walker} → Walkable J start ledger errors → walker ≡ walker_at J ledger start →
    Walked J start ledger errors old at old at walker 0
walked_first {J} {start} {ledger} {errors} old at {walker} given e =
    record {
      given = given;
      inside = zero-le;
      stands = standing_first J start ledger walker given.given.board given.given.early e;
      left = record { kept = refl; same = ap (λ (text : List ℕ). write (page old at) text) (sym (walked_all_left J start ledger errors)) };
    }

module _ {J start : ℕ} {ledger : List ℕ} {errors : List ℤ} {old : List ℕ} {at : ℕ} {new : List ℕ} {to : ℕ} {walker : Walker} {item : ℕ} (so : Walked J start ledger errors old at new to walker item) where
  pub walked_end : length ledger ≤ item → Wrote old at (ledger_text 0 J start ledger errors) new to
  walked_end done = left_none so.left (walked_none J start ledger errors item done)

  module _ (more : item < length ledger) {mark : ℕ} (marked : mark ≡ mark_where J (get_or ledger item 0) item walker.stop) (fits : SFits w64 (get_or errors item (pos 0))) where
    abbrev error : ℤ
    error = get_or errors item (pos 0)

    pub walked_fits : MarkFits J (get_or ledger item 0) (size_of (held error)) mark
    walked_fits =
        record {
          narrow = so.given.given.board.narrow;
          within = omega (arith, so.given.within item more, parts_at Size errors item, part_is_size error, ap size_of (kept error fits.sfits));
          some = λ z. standing_drawn J start ledger item walker so.stands more (sym marked ∙ z);
        }

    pub walked_more : {new' : List ℕ} {to' : ℕ} {walker' : Walker} →
        Wrote new to (item_text item (is_under (held error)) (marked_line J (get_or ledger item 0) (part_of Size (held error)) mark)) new' to' →
        walker' ≡ walker_after J ledger walker item → Walked J start ledger errors old at new' to' walker' (item + 1)
    walked_more wrote went =
        let own = ap (λ (e : ℤ). item_text item (is_under e) (marked_line J (get_or ledger item 0) (part_of Size e) mark)) (sym (kept error fits.sfits)) in
        record {
          given = so.given;
          inside = omega arith;
          stands = subst (Standing J start ledger (item + 1)) (sym went) (standing_on J start ledger item walker so.stands more so.given.given.board);
          left = left_more so.left (walked_on J start ledger errors item more (standing_mark J start ledger item walker so.stands more ∙ sym marked)) (as_text own wrote);
        }

-- what steps that accept have shown is what the walk asks
pub shown_walkable : {J start : ℕ} {ledger : List ℕ} {errors : List ℤ} → Shown 0 J ledger errors → start ≤ J → Walkable J start ledger errors
shown_walkable shown early =
    record {
      given = record { board = record { summed = shown.summed; narrow = shown.narrow }; few = omega (arith, shown.few); same = shown.same; early = early };
      within = shown.within;
    }
