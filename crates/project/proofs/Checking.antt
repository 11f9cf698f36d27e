-- The state and the check of a line, as the tests meet them, and the check of all lines, line by line. Assumes nothing.
use Prim.Native.Nat.{ℕ, suc, ◌≤◌, ◌<◌}
use mathlib.Core.Path.{◌≡◌, refl, sym, ap, ◌∙◌}
use mathlib.Core.Bool.{Bool, false}
use mathlib.Core.List.{List, [], ◌∷◌}
use borrow.Author.Tests.{ltb-false, lt-ltb, le-ltb}
use lib.Dec.{ltb}
use Rattle.terms.specs.Numbers.{pick}
use Rattle.terms.specs.Outcome.{accepted, refused, after}
use Rattle.terms.proofs.Outcomes.{never, after_accepted, Gives, gives_after}
use Rattle.terms.proofs.Tests.{by_test}
use Rattle.project.specs.declared.State.{State}
use Rattle.project.specs.declared.Line.{Line}
use Rattle.project.specs.Project.{misplaced, checked_line, checked_from}

-- the check of a line: an error above the value is refused whatever its state
pub above_value : (item : ℕ) (l : Line) → l.value < l.error → refused 14 item ≡ checked_line item l
unfolding checked_line
above_value item l h = simp (lt-ltb _ _ h)

-- the check of a line k that is l, by its state
module _ (item : ℕ) (l k : Line) (same : k ≡ l) (small : l.error ≤ l.value) where
  by_state : (s : State) (b : Bool) → k.state ≡ s → misplaced s l.error ≡ b → checked_line item l ≡ pick b (refused 15 item) (accepted k)
  unfolding checked_line
  by_state s b told q =
      let own : misplaced l.state l.error ≡ misplaced s l.error = ap (λ (y : Line). misplaced y.state l.error) (sym same) ∙ ap (λ (t : State). misplaced t l.error) told in
      simp (le-ltb _ _ small, own, q, same)

module _ (item : ℕ) (l : Line) where
  -- a line that passes
  pub record Sound : Type 0 where
    pub within : l.error ≤ l.value
    pub fine : misplaced l.state l.error ≡ false
    pub passes : checked_line item l ≡ accepted l

  pub is_sound : l.error ≤ l.value → misplaced l.state l.error ≡ false → Sound
  is_sound within fine = record { within = within; fine = fine; passes = by_state item l l refl within l.state false refl fine }

  pub checked_sound : (k : Line) → checked_line item l ≡ accepted k → Sound
  unfolding checked_line
  checked_sound k e =
      by_test (λ o. o ≡ accepted k → checked_line item l ≡ o → Sound) (ltb l.value l.error) (λ p w. never w)
      (λ p. by_test (λ o. o ≡ accepted k → checked_line item l ≡ o → Sound) (misplaced l.state l.error) (λ q w. never w)
      (λ q w s. record { within = ltb-false _ _ p; fine = q; passes = s })) e refl

-- all lines
pub checked_none : (item : ℕ) → checked_from item [] ≡ accepted []
unfolding checked_from
checked_none item = refl

pub checked_more : (item : ℕ) (l : Line) (ls : List Line) →
    checked_from item (l ∷ ls) ≡ after (λ good. after (λ rest. accepted (good ∷ rest)) (checked_from (suc item) ls)) (checked_line item l)
unfolding checked_from
checked_more item l ls = refl

-- lines that pass, after one that does
pub checked_before : (item : ℕ) (l : Line) (ls : List Line) → l.error ≤ l.value → misplaced l.state l.error ≡ false → checked_from (suc item) ls ≡ accepted ls →
    checked_from item (l ∷ ls) ≡ accepted (l ∷ ls)
checked_before item l ls small fine rest = checked_more item l ls ∙ rw ((is_sound item l small fine).passes, rest)

-- the first of lines that pass is sound, and the others pass; what passes are the lines themselves
pub record Checked (item : ℕ) (l : Line) (ls : List Line) : Type 0 where
  pub sound : Sound item l
  pub rest : checked_from (suc item) ls ≡ accepted ls

pub checked_same : (item : ℕ) (ls good : List Line) → checked_from item ls ≡ accepted good → checked_from item ls ≡ accepted ls
unfolding checked_from
checked_same item [] good e = refl
checked_same item (l ∷ ls) good e =
    let a = after_accepted (λ k. after (λ rest. accepted (k ∷ rest)) (checked_from (suc item) ls)) (checked_line item l) good e in
    let b = after_accepted (λ rest. accepted (a.0 ∷ rest)) (checked_from (suc item) ls) good a.2 in
    rw ((checked_sound item l a.0 a.1).passes, checked_same (suc item) ls b.0 b.1)

pub checked_rest : (item : ℕ) (l : Line) (ls good : List Line) → checked_from item (l ∷ ls) ≡ accepted good → Checked item l ls
unfolding checked_from
checked_rest item l ls good e =
    let a = after_accepted (λ k. after (λ rest. accepted (k ∷ rest)) (checked_from (suc item) ls)) (checked_line item l) good e in
    let b = after_accepted (λ rest. accepted (a.0 ∷ rest)) (checked_from (suc item) ls) good a.2 in
    record { sound = checked_sound item l a.0 a.1; rest = checked_same (suc item) ls b.0 b.1 }

-- lines that pass from one number on pass from any other
pub checked_anywhere : (item other : ℕ) (ls good : List Line) → checked_from item ls ≡ accepted good → checked_from other ls ≡ accepted ls
checked_anywhere item other [] good e = checked_none other
checked_anywhere item other (l ∷ ls) good e =
    let c = checked_rest item l ls good e in
    checked_before other l ls c.sound.within c.sound.fine (checked_anywhere (suc item) (suc other) ls ls c.rest)

-- the refusals of lines
abbrev pub line_numbers : List ℕ
line_numbers = 14 ∷ 15 ∷ []

pub checked_gives : (item : ℕ) (ls : List Line) → Gives line_numbers (checked_from item ls)
unfolding checked_from checked_line
checked_gives item [] = tt
checked_gives item (l ∷ ls) =
    gives_after line_numbers (λ k. after (λ rest. accepted (k ∷ rest)) (checked_from (suc item) ls)) (checked_line item l)
    (by_test (Gives line_numbers) (ltb l.value l.error) (λ p. tt) (λ p. by_test (Gives line_numbers) (misplaced l.state l.error) (λ q. tt) (λ q. tt)))
    (λ k. gives_after line_numbers (λ rest. accepted (k ∷ rest)) (checked_from (suc item) ls) (checked_gives (suc item) ls) (λ rest. tt))
