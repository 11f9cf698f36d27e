-- The fields of a line, found by two runs: over the blanks, then over the field. Assumes nothing.
use mathlib.Core.Path.{◌≡◌, refl, sym, ap, ◌∙◌}
use mathlib.Core.Bool.{Bool, true, false, not}
use mathlib.Core.List.{List, [], ◌∷◌}
use Prim.Native.Nat.{ℕ, suc, ◌+◌, ◌-◌, ◌<◌}
use native.Mathlib.Omega.{arith}
use lib.ListN.{length, get_or, take, drop, length-drop, drop_of_length-le}
use lib.Seq.{drop-drop, get_or-take, get_or-drop, length-take-le}
use Rattle.entry.specs.Text.{blank, opens, onto, fields_of, goes_on}
use Rattle.entry.specs.Steps.{run_of, Reached, fields_at}
use Rattle.entry.specs.declared.Run.{Run}
use Rattle.entry.specs.declared.Run.TheVariants.{Blanks, Field}
use Rattle.entry.proofs.Runs.{turned, unturned}

-- one byte
module _ (b : ℕ) (l : List ℕ) where
  run_yes : (run : Run) → goes_on run b ≡ true → run_of run (b ∷ l) ≡ suc (run_of run l)
  unfolding run_of
  run_yes run e = simp e

  run_no : (run : Run) → goes_on run b ≡ false → run_of run (b ∷ l) ≡ 0
  unfolding run_of
  run_no run e = simp e

  on_blank : blank b ≡ true → run_of Blanks (b ∷ l) ≡ suc (run_of Blanks l)
  unfolding goes_on
  on_blank e = run_yes Blanks e

  off_blank : blank b ≡ false → run_of Blanks (b ∷ l) ≡ 0
  unfolding goes_on
  off_blank e = run_no Blanks e

  on_field : blank b ≡ false → run_of Field (b ∷ l) ≡ suc (run_of Field l)
  unfolding goes_on
  on_field e = run_yes Field (ap not e)

  off_field : blank b ≡ true → run_of Field (b ∷ l) ≡ 0
  unfolding goes_on
  off_field e = run_no Field (ap not e)

  pub fields_blank : blank b ≡ true → fields_of (b ∷ l) ≡ fields_of l
  unfolding fields_of
  fields_blank e = simp e

  pub fields_on : blank b ≡ false → opens l ≡ true → fields_of (b ∷ l) ≡ onto b (fields_of l)
  unfolding fields_of
  fields_on e o = simp (e, o)

  pub fields_off : blank b ≡ false → opens l ≡ false → fields_of (b ∷ l) ≡ (b ∷ []) ∷ fields_of l
  unfolding fields_of
  fields_off e o = simp (e, o)

-- blanks before a field do not matter
skipped : (l : List ℕ) → fields_of (drop (run_of Blanks l) l) ≡ fields_of l
unfolding run_of
skipped [] = refl
skipped (b ∷ l) = go (blank b) refl (skipped l)
  where
    go : (t : Bool) → blank b ≡ t → fields_of (drop (run_of Blanks l) l) ≡ fields_of l → fields_of (drop (run_of Blanks (b ∷ l)) (b ∷ l)) ≡ fields_of (b ∷ l)
    go true e again = ap (λ (n : ℕ). fields_of (drop n (b ∷ l))) (on_blank b l e) ∙ again ∙ sym (fields_blank b l e)
    go false e again = ap (λ (n : ℕ). fields_of (drop n (b ∷ l))) (off_blank b l e)

pub opens_at : (b : ℕ) (l : List ℕ) → blank b ≡ false → opens (b ∷ l) ≡ true
unfolding opens
opens_at b l e = ap not e

-- after the blanks a field begins, or the line is over
opened : (l : List ℕ) → run_of Blanks l < length l → opens (drop (run_of Blanks l) l) ≡ true
opened [] h = absurd (omega arith)
opened (b ∷ l) h = go (blank b) refl (opened l)
  where
    go : (t : Bool) → blank b ≡ t → (run_of Blanks l < length l → opens (drop (run_of Blanks l) l) ≡ true) → opens (drop (run_of Blanks (b ∷ l)) (b ∷ l)) ≡ true
    go true e again = ap (λ (n : ℕ). opens (drop n (b ∷ l))) (on_blank b l e) ∙ again (omega (arith, on_blank b l e))
    go false e again = ap (λ (n : ℕ). opens (drop n (b ∷ l))) (off_blank b l e) ∙ opens_at b l e

first_byte : (b : ℕ) (l : List ℕ) → opens (b ∷ l) ≡ true → blank b ≡ false
unfolding opens
first_byte b l o = turned (blank b) o

no_more : (l : List ℕ) → opens l ≡ false → run_of Field l ≡ 0
unfolding opens run_of
no_more [] o = refl
no_more (b ∷ l) o = off_field b l (unturned (blank b) o)

-- a line that begins within a field: that field, and those after it
cut : (l : List ℕ) → opens l ≡ true → fields_of l ≡ take (run_of Field l) l ∷ fields_of (drop (run_of Field l) l)
unfolding opens
cut [] o = let z : ◌≡◌ {A = Bool} false true = o in absurd (let n : ◌≡◌ {A = ℕ} 0 1 = cc in omega arith)
cut (b ∷ l) o = go (opens l) refl (cut l)
  where
    e : blank b ≡ false
    e = first_byte b l o

    go : (t : Bool) → opens l ≡ t → (opens l ≡ true → fields_of l ≡ take (run_of Field l) l ∷ fields_of (drop (run_of Field l) l))
        → fields_of (b ∷ l) ≡ take (run_of Field (b ∷ l)) (b ∷ l) ∷ fields_of (drop (run_of Field (b ∷ l)) (b ∷ l))
    go true p again =
        fields_on b l e p ∙ ap (onto b) (again p) ∙ sym (ap (λ (n : ℕ). take n (b ∷ l) ∷ fields_of (drop n (b ∷ l))) (on_field b l e))
    go false p again =
        fields_off b l e p ∙ sym (ap (λ (n : ℕ). take n (b ∷ l) ∷ fields_of (drop n (b ∷ l))) (on_field b l e ∙ ap suc (no_more l p)))

some_field : (l : List ℕ) → opens l ≡ true → 0 < run_of Field l
unfolding opens
some_field [] o = absurd (let n : ◌≡◌ {A = ℕ} 0 1 = cc in omega arith)
some_field (b ∷ l) o = omega (arith, on_field b l (first_byte b l o))

-- the same at a place of a line
module _ {line : List ℕ} {at from : ℕ} (blanks : Reached Blanks line at from) where
  here : fields_at line from ≡ fields_at line at
  unfolding fields_at
  here = ap (λ (n : ℕ). fields_of (drop n line)) blanks.same ∙ ap fields_of (sym (drop-drop (run_of Blanks (drop at line)) at line)) ∙ skipped (drop at line)

  pub no_field : from ≡ length line → fields_at line at ≡ []
  unfolding fields_at fields_of
  no_field e = sym here ∙ ap fields_of (drop_of_length-le line {i = from} (omega arith))

  module _ (inside : from < length line) where
    begins : opens (drop from line) ≡ true
    begins =
        let room : run_of Blanks (drop at line) < length (drop at line) = omega (arith, length-drop at line, blanks.same) in
        ap (λ (n : ℕ). opens (drop n line)) blanks.same ∙ ap opens (sym (drop-drop (run_of Blanks (drop at line)) at line)) ∙ opened (drop at line) room

    pub some_field_left : fields_at line at ≡ take (run_of Field (drop from line)) (drop from line) ∷ fields_of (drop (run_of Field (drop from line)) (drop from line))
    unfolding fields_at
    some_field_left = sym here ∙ cut (drop from line) begins

    module _ {to : ℕ} (field : Reached Field line from to) where
      wide_as : to - from ≡ run_of Field (drop from line)
      wide_as = omega (arith, field.same)

      pub first_field : fields_at line at ≡ take (to - from) (drop from line) ∷ fields_at line to
      unfolding fields_at
      first_field =
          some_field_left
          ∙ (λ i. take (sym wide_as i) (drop from line) ∷ fields_of (drop (run_of Field (drop from line)) (drop from line)))
          ∙ ap (λ (l : List ℕ). take (to - from) (drop from line) ∷ fields_of l) (drop-drop (run_of Field (drop from line)) from line ∙ ap (λ (n : ℕ). drop n line) (sym field.same))

      pub some_bytes : from < to
      some_bytes = omega (arith, some_field (drop from line) begins, field.same)

      pub field_length : length (take (to - from) (drop from line)) ≡ to - from
      field_length = length-take-le (to - from) (drop from line) (omega (arith, length-drop from line, field.within))

      pub field_byte : get_or (take (to - from) (drop from line)) 0 0 ≡ get_or line from 0
      field_byte =
          let none : from + 0 ≡ from = omega arith in
          get_or-take (to - from) (drop from line) 0 0 (omega (arith, some_bytes)) ∙ get_or-drop from line 0 0 ∙ ap (λ (n : ℕ). get_or line n 0) none
