-- The lines of a ledger by the marks of the walk. Assumes nothing.
use Prim.Native.Nat.{ℕ, zero, suc, ◌+◌, ◌<◌}
use native.Mathlib.Numerals.{add-one}
use native.Mathlib.Omega.{arith}
use mathlib.Core.Path.{◌≡◌, refl, sym, ap, ◌∙◌}
use mathlib.Core.Bool.{Bool, true, false}
use mathlib.Core.List.{List, [], ◌∷◌}
use lib.Dec.{eqb}
use lib.IntN.{ℤ, pos}
use lib.ListN.{length, get_or, drop}
use lib.Seq.{get_or-drop}
use Rattle.draw.specs.Points.{covers}
use Rattle.draw.specs.Row.{full, cents, mark_by, marks_from, draw_marks}
use Rattle.signed.specs.declared.Part.{Part}
use Rattle.signed.specs.Parts.{part_of, parts}
use Rattle.signed.proofs.Laws.{parts_at}
use Rattle.project.specs.Lines.{amount, state_by, lines_from, lines_of}
use Rattle.project.specs.Project.{lines_with}
use Rattle.blackboard.specs.Board.{board_marks}
use Rattle.sameboard.proofs.Marks.{same_marks}
use Rattle.boardjudge.specs.Marked.{marked_line}

-- the state by a mark is that by whether the line is full and whether it covers a point
state_marked : (f c : Bool) (a : ℕ) → state_by f c a ≡ state_by (eqb (mark_by f c) 2) (eqb (mark_by f c) 1) a
state_marked true c a = refl
state_marked false true a = refl
state_marked false false a = refl

-- a line of those from one on, and those after it
lines_on : (J s o : ℕ) (vs es : List ℕ) (i : ℕ) → i < length vs →
    drop i (lines_from J s o vs es) ≡ marked_line J (get_or vs i 0) (get_or es i 0) (get_or (marks_from J s o vs) i 0) ∷ drop (suc i) (lines_from J s o vs es)
unfolding lines_from marks_from
lines_on J s o [] es i h = absurd (omega arith)
lines_on J s o (v ∷ vs) es zero h =
    λ k. record { value = v; error = get_or es 0 0; state = state_marked (full J v) (covers J s o v) (amount J v (get_or es 0 0)) k } ∷ lines_from J s (o + cents J v) vs (drop 1 es)
lines_on J s o (v ∷ vs) es (suc i) h =
    let one : 1 + i ≡ suc i = omega arith in
    let own : get_or (drop 1 es) i 0 ≡ get_or es (suc i) 0 = get_or-drop 1 es i 0 ∙ ap (λ (k : ℕ). get_or es k 0) one in
    lines_on J s (o + cents J v) vs (drop 1 es) i (omega arith)
    ∙ ap (λ (e : ℕ). marked_line J (get_or vs i 0) e (get_or (marks_from J s (o + cents J v) vs) i 0) ∷ drop (suc i) (lines_from J s (o + cents J v) vs (drop 1 es))) own

-- with one part of each error, by the marks of the walk
pub line_on : (part : Part) (J start : ℕ) (ledger : List ℕ) (errors : List ℤ) (item : ℕ) → item < length ledger → {mark : ℕ} → get_or (board_marks J start ledger) item 0 ≡ mark →
    drop item (lines_with part J start ledger errors)
    ≡ marked_line J (get_or ledger item 0) (part_of part (get_or errors item (pos 0))) mark ∷ drop (item + 1) (lines_with part J start ledger errors)
unfolding lines_of draw_marks
line_on part J start ledger errors item h marked =
    let own = ap (λ (ms : List ℕ). get_or ms item 0) (sym (same_marks J start ledger)) ∙ marked in
    lines_on J start 0 ledger (parts part errors) item h
    ∙ (λ k. marked_line J (get_or ledger item 0) (parts_at part errors item k) (own k) ∷ drop (sym (add-one item) k) (lines_with part J start ledger errors))
