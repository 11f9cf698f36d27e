-- The lines added up by their marks give the sums of the checked lines, each kind by itself, or the same refusal. Assumes nothing.
use Prim.Native.Nat.{ℕ, suc, ◌+◌, ◌≤◌, ◌<◌}
use native.Mathlib.Nat.{add-zero, zero-add}
use native.Mathlib.Omega.{arith}
use mathlib.Core.Path.{◌≡◌, refl, sym, ap, ◌∙◌}
use mathlib.Core.Bool.{Bool, true, false}
use mathlib.Core.List.{List, [], ◌∷◌}
use mathlib.Core.Logic.{⊎_elim}
use borrow.Author.Tests.{lt-ltb, le-ltb}
use lib.IntN.{ℤ, pos}
use lib.ListN.{get_or, drop}
use Rattle.terms.specs.Outcome.{Outcome, accepted, refused, after}
use Rattle.terms.proofs.Tests.{le_or_lt}
use Rattle.signed.specs.declared.Part.{Part}
use Rattle.signed.specs.declared.Part.TheVariants.{Overstated, Understated, Size}
use Rattle.signed.specs.Errors.{overstated, understated, size_of}
use Rattle.signed.specs.Parts.{part_of, parts}
use Rattle.signed.proofs.Laws.{parts_at, parts_drop}
use Rattle.draw.specs.Points.{covers}
use Rattle.draw.specs.Row.{full, cents, mark_by, marks_from, draw_marks}
use Rattle.project.specs.declared.Line.{Line}
use Rattle.project.specs.declared.Sums.{Sums}
use Rattle.project.specs.declared.Projection.{Projection}
use Rattle.project.specs.Lines.{amount, state_by, lines_from, lines_of, full_part, sampled_part, count_part, total, sums_of}
use Rattle.project.specs.Project.{checked_line, checked_from, checked_lines, projection_of, projection_at}
use Rattle.blackboard.specs.declared.{BoardSums.BoardSums, BoardKinds.BoardKinds}
use Rattle.blackboard.specs.Project.{board_amount, with_line, line_added, added_from, no_kinds, board_projection_of, board_projection_at}
use Rattle.sameboard.specs.Same.{as_projected}
use Rattle.sameboard.proofs.Marks.{same_marks}

-- the sums of a kind, with further lines added
abbrev plus : BoardSums → List Line → Sums
plus sums lines = record { full = sums.full + total full_part lines; sampled = sums.sampled + total sampled_part lines; m = sums.m + total count_part lines }

-- one line of a kind that is added to the sums, or stands before the others
record Adds (sums next : BoardSums) (line : Line) : Type 0 where
  pub full : next.full ≡ sums.full + full_part line.state line.error
  pub sampled : next.sampled ≡ sums.sampled + sampled_part line.state line.error
  pub m : next.m ≡ sums.m + count_part line.state line.error

plus_on : (sums next : BoardSums) (line : Line) (lines : List Line) → Adds sums next line → plus next lines ≡ plus sums (line ∷ lines)
unfolding total
plus_on sums next line lines a =
    let f : next.full + total full_part lines ≡ sums.full + (full_part line.state line.error + total full_part lines) = omega (arith, a.full) in
    let s : next.sampled + total sampled_part lines ≡ sums.sampled + (sampled_part line.state line.error + total sampled_part lines) = omega (arith, a.sampled) in
    let c : next.m + total count_part lines ≡ sums.m + (count_part line.state line.error + total count_part lines) = omega (arith, a.m) in
    λ i. record { full = f i; sampled = s i; m = c i }

-- a line by whether it is full and whether it covers a point
abbrev line_by : ℕ → ℕ → Bool → Bool → ℕ → Line
line_by J v f c e = record { value = v; error = e; state = state_by f c (amount J v e) }

-- a full line and a drawn one, and one that is neither and has no error
adds_line : (J v e : ℕ) (sums : BoardSums) (f c : Bool) → Adds sums (with_line J sums (mark_by f c) v e) (line_by J v f c e)
unfolding board_amount amount
adds_line J v e sums true c = record { full = refl; sampled = omega arith; m = omega arith }
adds_line J v e sums false true = record { full = omega arith; sampled = refl; m = refl }
adds_line J v e sums false false = record { full = omega arith; sampled = omega arith; m = omega arith }

-- the answer from sums and lines to come of each kind, after the check of those lines
abbrev Ends : BoardKinds → List Line → List Line → Outcome (List Line) → Outcome Projection
Ends kinds over under checked = after (λ lines. accepted (projection_of (plus kinds.over over) (plus kinds.under under))) checked

abbrev answered : Outcome BoardKinds → Outcome Projection
answered o = as_projected (after (λ kinds. accepted (board_projection_of kinds.over kinds.under)) o)

-- one line, before what is to come
module _ (J item : ℕ) (kinds : BoardKinds) (v : ℕ) (e : ℤ) (over under : List Line) (go : BoardKinds → Outcome BoardKinds) (rest : Outcome (List Line))
    (on : (next : BoardKinds) → answered (go next) ≡ Ends next over under rest) where
  OneLine : Bool → Bool → Type 0
  OneLine f c =
      answered (after go (line_added J item kinds (mark_by f c) v e))
      ≡ Ends kinds (line_by J v f c (overstated e) ∷ over) (line_by J v f c (understated e) ∷ under)
      (after (λ good. after (λ lines. accepted (good ∷ lines)) rest) (checked_line item (line_by J v f c (size_of e))))

  -- a line that passes
  carried : (f c : Bool) (o : Outcome (List Line)) → Ends
      (record { over = with_line J kinds.over (mark_by f c) v (overstated e); under = with_line J kinds.under (mark_by f c) v (understated e) }) over under o
      ≡ Ends kinds (line_by J v f c (overstated e) ∷ over) (line_by J v f c (understated e) ∷ under) (after (λ lines. accepted (line_by J v f c (size_of e) ∷ lines)) o)
  carried f c (accepted lines) =
      let a = plus_on kinds.over _ (line_by J v f c (overstated e)) over (adds_line J v (overstated e) kinds.over f c) in
      let b = plus_on kinds.under _ (line_by J v f c (understated e)) under (adds_line J v (understated e) kinds.under f c) in
      λ i. accepted (projection_of (a i) (b i))
  carried f c (refused n p) = refl

  above : (f c : Bool) → v < size_of e → OneLine f c
  unfolding OneLine line_added checked_line
  above f c h = rw (lt-ltb v (size_of e) h)

  within : (f c : Bool) → size_of e ≤ v → OneLine f c
  unfolding OneLine line_added checked_line
  within true c h = rw (le-ltb v (size_of e) h) (on _ ∙ carried true c rest)
  within false true h = rw (le-ltb v (size_of e) h) (on _ ∙ carried false true rest)
  within false false h =
      ⊎_elim
      (λ (z : size_of e ≤ 0). rw (le-ltb v (size_of e) h, le-ltb 0 (size_of e) z) (on _ ∙ carried false false rest))
      (λ (z : 0 < size_of e). rw (le-ltb v (size_of e) h, lt-ltb 0 (size_of e) z)) (le_or_lt (size_of e) 0)

  one_line : (f c : Bool) → OneLine f c
  one_line f c = ⊎_elim (λ (h : size_of e ≤ v). within f c h) (λ (h : v < size_of e). above f c h) (le_or_lt (size_of e) v)

-- the lines with one part of each error
abbrev lines_by : Part → ℕ → ℕ → ℕ → List ℕ → List ℤ → List Line
lines_by part J s o vs es = lines_from J s o vs (parts part es)

lines_on : (part : Part) (J s o v : ℕ) (vs : List ℕ) (es : List ℤ) →
    line_by J v (full J v) (covers J s o v) (part_of part (get_or es 0 (pos 0))) ∷ lines_by part J s (o + cents J v) vs (drop 1 es) ≡ lines_by part J s o (v ∷ vs) es
unfolding lines_from
lines_on part J s o v vs es = λ i.
    line_by J v (full J v) (covers J s o v) (sym (parts_at part es 0) i) ∷ lines_from J s (o + cents J v) vs (parts_drop part 1 es i)

-- all lines
lines_same : (J s o item : ℕ) (kinds : BoardKinds) (vs : List ℕ) (es : List ℤ) → answered (added_from J item kinds vs (marks_from J s o vs) es)
    ≡ Ends kinds (lines_by Overstated J s o vs es) (lines_by Understated J s o vs es) (checked_from item (lines_by Size J s o vs es))
unfolding added_from marks_from checked_from lines_from total OneLine part_of
lines_same J s o item kinds [] es =
    λ i. accepted (projection_of
    (record { full = sym (add-zero kinds.over.full) i; sampled = sym (add-zero kinds.over.sampled) i; m = sym (add-zero kinds.over.m) i })
    (record { full = sym (add-zero kinds.under.full) i; sampled = sym (add-zero kinds.under.sampled) i; m = sym (add-zero kinds.under.m) i }))
lines_same J s o item kinds (v ∷ vs) es =
    let first : ℕ = o + cents J v in
    one_line J item kinds v (get_or es 0 (pos 0)) (lines_by Overstated J s first vs (drop 1 es)) (lines_by Understated J s first vs (drop 1 es))
    (λ next. added_from J (suc item) next vs (marks_from J s first vs) (drop 1 es)) (checked_from (suc item) (lines_by Size J s first vs (drop 1 es)))
    (λ next. lines_same J s first (suc item) next vs (drop 1 es)) (full J v) (covers J s o v)
    ∙ (λ i. Ends kinds (lines_on Overstated J s o v vs es i) (lines_on Understated J s o v vs es i) (checked_from item (lines_on Size J s o v vs es i)))

from_none : (over under : List Line) (o : Outcome (List Line)) → Ends no_kinds over under o ≡ after (λ lines. accepted (projection_of (sums_of over) (sums_of under))) o
from_none over under (accepted lines) =
    λ i. accepted (projection_of
    (record { full = zero-add (total full_part over) i; sampled = zero-add (total sampled_part over) i; m = zero-add (total count_part over) i })
    (record { full = zero-add (total full_part under) i; sampled = zero-add (total sampled_part under) i; m = zero-add (total count_part under) i }))
from_none over under (refused n p) = refl

pub same_projection : (J start : ℕ) (ledger : List ℕ) (errors : List ℤ) → as_projected (board_projection_at J start ledger errors) ≡ projection_at 0 J start ledger errors
unfolding board_projection_at projection_at checked_lines lines_of draw_marks
same_projection J start ledger errors =
    ap (λ (marks : List ℕ). answered (added_from J 0 no_kinds ledger marks errors)) (same_marks J start ledger)
    ∙ lines_same J start 0 0 no_kinds ledger errors
    ∙ from_none (lines_by Overstated J start 0 ledger errors) (lines_by Understated J start 0 ledger errors) (checked_from 0 (lines_by Size J start 0 ledger errors))
