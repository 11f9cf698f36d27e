-- A change and an append keep a summary that agrees. Assumes nothing.
use Prim.Native.Nat.{ℕ, ◌+◌, ◌-◌, ◌/◌, ◌^◌, ◌≤◌, ◌<◌}
use mathlib.Core.Path.{◌≡◌, sym, ap, ◌∙◌}
use mathlib.Core.List.{List, [], ◌∷◌, ◌++◌}
use native.Mathlib.Omega.{arith}
use native.Mathlib.Numerals.{add-one}
use borrow.Author.Tests.{ltb-true, ltb-false}
use lib.Dec.{ltb}
use lib.ListN.{length, get_or, set, length-set}
use lib.Seq.{length-take-le, take-set-lt, take-suc-set, get_or-take}
use Rattle.terms.specs.Outcome.{Outcome, accepted, refused, after}
use Rattle.terms.specs.Numbers.{pick, sum}
use Rattle.terms.specs.Limits.{most_lines, most_value, most_total}
use Rattle.terms.proofs.Outcomes.{never, after_accepted}
use Rattle.terms.proofs.Tests.{by_test}
use Rattle.terms.proofs.Sums.{sum_append}
use Rattle.upkeep.specs.declared.NewFigures.{NewFigures}
use Rattle.totals.specs.Summary.{blocks, block_totals, in_use, summary_for, Agrees, shape_of}
use Rattle.upkeep.specs.Upkeep.{value_judged, figure_moved, new_figures, both_moved, changed_to, appended_to, change_of, most_before, append_of, line_set, figures_set}
use Rattle.totals.proofs.Shapes.{in_shape, block_within}
use Rattle.totals.proofs.Agreeing.{sum_set, totals_many, line_set_lem, line_more, figure_at, both_set, agrees_one, agrees_exactly}

-- what an accepted figure is
moved_is : (block figure old value x : ℕ) → figure_moved block figure old value ≡ accepted x → x + old ≡ figure + value
unfolding figure_moved
moved_is block figure old value x =
    by_test (λ o. o ≡ accepted x → x + old ≡ figure + value) (ltb (figure + value) old) (λ p e. never e)
    (λ p. by_test (λ o. o ≡ accepted x → x + old ≡ figure + value) (ltb (figure + value) (2 ^ 64 + old))
    (λ q e. let low = ltb-false (figure + value) old p in
    let same : figure + value - old ≡ x = cc in
    omega arith) (λ q e. never e))

-- what accepted figures are
pub record Moved (value old figure grand : ℕ) (new : NewFigures) : Type 0 where
  pub first : new.figure + old ≡ figure + value
  pub second : new.grand + old ≡ grand + value

both_are : (line value old many figure grand : ℕ) (new : NewFigures) → both_moved line value old many figure grand ≡ accepted new → Moved value old figure grand new
unfolding both_moved
both_are line value old many figure grand new e =
    let a = after_accepted (λ first. after (λ second. accepted (new_figures first second)) (figure_moved many grand old value)) (figure_moved (line / 256) figure old value) new e in
    let b = after_accepted (λ second. accepted (new_figures a.0 second)) (figure_moved many grand old value) new a.2 in
    let same : new_figures a.0 b.0 ≡ new = cc in
    let p = moved_is (line / 256) figure old value a.0 a.1 in
    let q = moved_is many grand old value b.0 b.1 in
    record {
      first = ap (λ (f : NewFigures). f.figure + old) (sym same) ∙ p;
      second = ap (λ (f : NewFigures). f.grand + old) (sym same) ∙ q;
    }

judged_is : (line value old grand new : ℕ) → value_judged line value old grand ≡ accepted new → value ≡ new
unfolding value_judged
judged_is line value old grand new =
    by_test (λ o. o ≡ accepted new → value ≡ new) (ltb most_value value) (λ p e. never e)
    (λ p. by_test (λ o. o ≡ accepted new → value ≡ new) (ltb (most_total + old) (grand + value)) (λ q e. never e) (λ q e. cc))

changed_are : (line value old many figure grand : ℕ) (new : NewFigures) → changed_to line value old many figure grand ≡ accepted new → Moved value old figure grand new
unfolding changed_to
changed_are line value old many figure grand new e =
    let a = after_accepted (λ v. both_moved line v old many figure grand) (value_judged line value old grand) new e in
    let same = judged_is line value old grand a.0 a.1 in
    both_are line value old many figure grand new (ap (λ (v : ℕ). both_moved line v old many figure grand) same ∙ a.2)

-- what an accepted change gives
pub record Changed (room : List ℕ) (count : ℕ) (summary : List ℕ) (line value : ℕ) (new : NewFigures) : Type 0 where
  pub within : count ≤ length room
  pub used : line < count
  pub moves : Moved value (get_or room line 0) (get_or summary (line / 256) 0) (get_or summary (blocks (length room)) 0) new

pub changed : (room : List ℕ) (count : ℕ) (summary : List ℕ) (line value : ℕ) (new : NewFigures) → change_of room count summary line value ≡ accepted new → Changed room count summary line value new
unfolding change_of
changed room count summary line value new e =
    let to : ℕ → Outcome NewFigures = λ many. changed_to line value (get_or room line 0) many (get_or summary (line / 256) 0) (get_or summary many 0) in
    let a = after_accepted (λ many. pick (ltb line count) (to many) (refused 20 0)) (shape_of most_lines count (length room) (length summary)) new e in
    let f = in_shape _ _ _ _ _ a.1 in
    by_test (λ o. o ≡ accepted new → Changed room count summary line value new) (ltb line count)
    (λ p t. record {
      within = f.inside;
      used = ltb-true line count p;
      moves = changed_are line value (get_or room line 0) (blocks (length room)) (get_or summary (line / 256) 0) (get_or summary (blocks (length room)) 0) new (ap to (sym f.are) ∙ t);
    })
    (λ p t. never t) a.2

-- a change keeps it
pub change_agrees : (room : List ℕ) (count : ℕ) (summary : List ℕ) (line value : ℕ) (new : NewFigures) → change_of room count summary line value ≡ accepted new →
    Agrees room count summary → Agrees (line_set room line value new) count (figures_set (length room) summary line new)
unfolding line_set figures_set summary_for
change_agrees room count summary line value new e agrees =
    let c = changed room count summary line value new e in
    let n = blocks (length room) in
    let l = in_use room count in
    let b = line / 256 in
    let used = c.used in
    let known : length l ≡ count = length-take-le count room c.within in
    let in_block : b < n = block_within (length room) line (omega (arith, c.within)) in
    let old : get_or l line 0 ≡ get_or room line 0 = get_or-take count room line 0 used in
    let figures = block_totals n l in
    let one : summary ≡ figures ++ (sum l ∷ []) = agrees_one room count summary agrees in
    let figure : get_or summary b 0 ≡ get_or figures b 0 = ap (λ (s : List ℕ). get_or s b 0) one ∙ figure_at figures n (sum l) (totals_many n l) b in_block in
    let lines : in_use (set room line value) count ≡ set l line value = take-set-lt count room line value used in
    let first = line_set_lem n l line value new.figure in_block (omega arith) (omega (arith, c.moves.first)) in
    let second : new.grand ≡ sum (set l line value) = omega (arith, c.moves.second, agrees.grand, sum_set l line value (omega arith)) in
    let many : blocks (length (set room line value)) ≡ n = ap blocks (length-set room line value) in
    let left : set (set summary b new.figure) n new.grand ≡ set figures b new.figure ++ (new.grand ∷ []) =
    ap (λ (s : List ℕ). set (set s b new.figure) n new.grand) one ∙ both_set figures n (sum l) (totals_many n l) b new.figure new.grand in_block in
    let right : set figures b new.figure ++ (new.grand ∷ []) ≡ block_totals (blocks (length (set room line value))) (in_use (set room line value) count) ++ (sum (in_use (set room line value) count) ∷ []) =
    ap (λ (f : List ℕ). f ++ (new.grand ∷ [])) (sym first) ∙ ap (λ (g : ℕ). block_totals n (set l line value) ++ (g ∷ [])) second
    ∙ (λ i. block_totals (sym many i) (sym lines i) ++ (sum (sym lines i) ∷ [])) in
    (agrees_exactly (set room line value) count (set (set summary b new.figure) n new.grand)).1 (left ∙ right)

-- what an accepted append gives
pub record Appended (room : List ℕ) (count : ℕ) (summary : List ℕ) (value : ℕ) (new : NewFigures) : Type 0 where
  pub few : count < most_lines
  pub within : count < length room
  pub moves : Moved value 0 (get_or summary (count / 256) 0) (get_or summary (blocks (length room)) 0) new

appended_are : (count room value many figure grand : ℕ) (new : NewFigures) → appended_to count room value many figure grand ≡ accepted new → (count < room) × Moved value 0 figure grand new
unfolding appended_to
appended_are count room value many figure grand new e =
    let a = after_accepted (λ v. pick (ltb count room) (both_moved count v 0 many figure grand) (refused 18 (count + 1))) (value_judged count value 0 grand) new e in
    let same = judged_is count value 0 grand a.0 a.1 in
    by_test (λ o. o ≡ accepted new → (count < room) × Moved value 0 figure grand new) (ltb count room)
    (λ p t. (ltb-true count room p, both_are count value 0 many figure grand new (ap (λ (v : ℕ). both_moved count v 0 many figure grand) same ∙ t))) (λ p t. never t) a.2

pub appended : (room : List ℕ) (count : ℕ) (summary : List ℕ) (value : ℕ) (new : NewFigures) → append_of room count summary value ≡ accepted new → Appended room count summary value new
unfolding append_of
appended room count summary value new e =
    let to : ℕ → Outcome NewFigures = λ many. appended_to count (length room) value many (get_or summary (count / 256) 0) (get_or summary many 0) in
    let a = after_accepted to (shape_of most_before count (length room) (length summary)) new e in
    let f = in_shape _ _ _ _ _ a.1 in
    let k = appended_are count (length room) value (blocks (length room)) (get_or summary (count / 256) 0) (get_or summary (blocks (length room)) 0) new (ap to (sym f.are) ∙ a.2) in
    record { few = omega (arith, f.few); within = k.0; moves = k.1 }

-- an append keeps it, for one line more
pub append_agrees : (room : List ℕ) (count : ℕ) (summary : List ℕ) (value : ℕ) (new : NewFigures) → append_of room count summary value ≡ accepted new →
    Agrees room count summary → Agrees (line_set room count value new) (count + 1) (figures_set (length room) summary count new)
unfolding line_set figures_set summary_for
append_agrees room count summary value new e agrees =
    let c = appended room count summary value new e in
    let n = blocks (length room) in
    let l = in_use room count in
    let b = count / 256 in
    let within = c.within in
    let known : length l ≡ count = length-take-le count room (omega arith) in
    let in_block : b < n = block_within (length room) count within in
    let figures = block_totals n l in
    let one : summary ≡ figures ++ (sum l ∷ []) = agrees_one room count summary agrees in
    let figure : get_or summary b 0 ≡ get_or figures b 0 = ap (λ (s : List ℕ). get_or s b 0) one ∙ figure_at figures n (sum l) (totals_many n l) b in_block in
    let lines : in_use (set room count value) (count + 1) ≡ l ++ (value ∷ []) = rw add-one (take-suc-set room count value within) in
    let first = line_more n l count value new.figure in_block known (omega (arith, c.moves.first)) in
    let second : new.grand ≡ sum (l ++ (value ∷ [])) = omega (arith, c.moves.second, agrees.grand, sum_append l (value ∷ [])) in
    let many : blocks (length (set room count value)) ≡ n = ap blocks (length-set room count value) in
    let left : set (set summary b new.figure) n new.grand ≡ set figures b new.figure ++ (new.grand ∷ []) =
    ap (λ (s : List ℕ). set (set s b new.figure) n new.grand) one ∙ both_set figures n (sum l) (totals_many n l) b new.figure new.grand in_block in
    let right : set figures b new.figure ++ (new.grand ∷ [])
    ≡ block_totals (blocks (length (set room count value))) (in_use (set room count value) (count + 1)) ++ (sum (in_use (set room count value) (count + 1)) ∷ []) =
    ap (λ (f : List ℕ). f ++ (new.grand ∷ [])) (sym first) ∙ ap (λ (g : ℕ). block_totals n (l ++ (value ∷ [])) ++ (g ∷ [])) second
    ∙ (λ i. block_totals (sym many i) (sym lines i) ++ (sum (sym lines i) ∷ [])) in
    (agrees_exactly (set room count value) (count + 1) (set (set summary b new.figure) n new.grand)).1 (left ∙ right)
