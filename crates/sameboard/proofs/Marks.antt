-- Both methods leave the same marks, at every interval and start, and count as many of them. Assumes nothing.
use Prim.Native.Nat.{ℕ, ◌<◌}
use native.Mathlib.Omega.{arith}
use mathlib.Core.Path.{◌≡◌, refl, sym, ◌∙◌}
use mathlib.Core.Bool.{Bool, true, false}
use mathlib.Core.List.{List, [], ◌∷◌}
use borrow.Author.Tests.{ltb-true, ltb-false}
use lib.ListN.{length, get_or}
use lib.Seq.{ext_get_or}
use Rattle.terms.specs.Numbers.{pick}
use Rattle.draw.specs.Points.{covers}
use Rattle.draw.specs.Row.{full, first_cent, mark_by, draw_marks, ones}
use Rattle.draw.proofs.Laws.{draw_marks_lem, marks_length, mark_at}
use Rattle.blackboard.specs.Board.{points_of, board_marks, drawn_lines}
use Rattle.blackboard.proofs.Walking.{reached, board_length, board_mark}
use Rattle.sameboard.proofs.Stops.{reached_full, reached_covers}

pub same_count : (marks : List ℕ) → drawn_lines marks ≡ ones marks
unfolding drawn_lines ones
same_count [] = refl
same_count (m ∷ ms) = omega (arith, same_count ms)

module _ (J start : ℕ) (ledger : List ℕ) where
  draw_length : length (draw_marks J start ledger) ≡ length ledger
  draw_length = rw (draw_marks_lem J start ledger) (marks_length J start 0 ledger)

  module _ (item : ℕ) (inside : item < length ledger) where
    mark_by_lem : (f : Bool) → full J (get_or ledger item 0) ≡ f →
        pick (reached J ledger item (points_of J start ledger)) 1 (pick f 2 0) ≡ mark_by f (covers J start (first_cent J ledger item) (get_or ledger item 0))
    mark_by_lem true e = rw (reached_full J start ledger item inside (ltb-true J (get_or ledger item 0) e))
    mark_by_lem false e = rw (reached_covers J start ledger item inside (ltb-false J (get_or ledger item 0) e))

    same_mark : get_or (board_marks J start ledger) item 0 ≡ get_or (draw_marks J start ledger) item 0
    same_mark = board_mark J start ledger item inside ∙ mark_by_lem (full J (get_or ledger item 0)) refl ∙ sym (mark_at J start ledger item inside)

  pub same_marks : board_marks J start ledger ≡ draw_marks J start ledger
  same_marks =
      ext_get_or 0 (board_marks J start ledger) (draw_marks J start ledger) (board_length J start ledger ∙ sym draw_length)
      (λ item h. same_mark item (omega (arith, board_length J start ledger)))
