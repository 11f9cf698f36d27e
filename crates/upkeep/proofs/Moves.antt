-- A value that is taken, and the figures that it makes. Assumes nothing.
use Prim.Native.Nat.{ℕ, ◌+◌, ◌-◌, ◌/◌, ◌^◌, ◌≤◌, ◌<◌}
use mathlib.Core.Path.{◌≡◌, sym, ap, ◌∙◌}
use borrow.Author.Tests.{lt-ltb, le-ltb}
use lib.Dec.{ltb}
use Rattle.terms.specs.Outcome.{Outcome, accepted, refused, after}
use Rattle.terms.specs.Numbers.{pick}
use Rattle.terms.specs.Limits.{most_value, most_total}
use Rattle.upkeep.specs.declared.NewFigures.{NewFigures}
use Rattle.upkeep.specs.Upkeep.{value_judged, figure_moved, new_figures, both_moved, changed_to, appended_to}

-- a value within its limit, with a total within its own
pub value_fine : (line value old grand : ℕ) → value ≤ most_value → grand + value ≤ most_total + old → accepted value ≡ value_judged line value old grand
unfolding value_judged
value_fine line value old grand v h = simp (le-ltb _ _ v, le-ltb _ _ h)

-- a figure that 64 bits hold
pub moved_to : (block figure old value x : ℕ) → old ≤ figure + value → figure + value < 2 ^ 64 + old → x ≡ figure + value - old → accepted x ≡ figure_moved block figure old value
unfolding figure_moved
moved_to block figure old value x l h e = simp (le-ltb _ _ l, lt-ltb _ _ h) (ap accepted e)

-- both figures, one after the other
pub both_told : (line value old many figure grand first second : ℕ) → accepted first ≡ figure_moved (line / 256) figure old value → accepted second ≡ figure_moved many grand old value →
    accepted (new_figures first second) ≡ both_moved line value old many figure grand
unfolding both_moved
both_told line value old many figure grand first second one two =
    ap (after (λ second. accepted (new_figures first second))) two
    ∙ ap (after (λ first. after (λ second. accepted (new_figures first second)) (figure_moved many grand old value))) one

-- the judgement of the value, then the figures
pub changed_moved : (line value old many figure grand : ℕ) {o : Outcome NewFigures} → accepted value ≡ value_judged line value old grand →
    o ≡ both_moved line value old many figure grand → o ≡ changed_to line value old many figure grand
unfolding changed_to
changed_moved line value old many figure grand fine e = e ∙ ap (after (λ new. both_moved line new old many figure grand)) fine

pub appended_moved : (count room value many figure grand : ℕ) {o : Outcome NewFigures} → accepted value ≡ value_judged count value 0 grand →
    count < room → o ≡ both_moved count value 0 many figure grand → o ≡ appended_to count room value many figure grand
unfolding appended_to
appended_moved count room value many figure grand fine h e =
    let here : pick (ltb count room) (both_moved count value 0 many figure grand) (refused 18 (count + 1)) ≡ both_moved count value 0 many figure grand = simp (lt-ltb _ _ h) in
    e ∙ sym here ∙ ap (after (λ new. pick (ltb count room) (both_moved count new 0 many figure grand) (refused 18 (count + 1)))) fine
