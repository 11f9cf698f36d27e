-- The first line of what is left of a text, found by a run that stops at a newline. Assumes nothing.
use mathlib.Core.Path.{◌≡◌, refl, sym, ap, ◌∙◌}
use mathlib.Core.Bool.{Bool, true, false}
use mathlib.Core.Logic.{⊎_elim}
use mathlib.Core.List.{List, [], ◌∷◌}
use Prim.Native.Nat.{ℕ, suc, ◌+◌, ◌-◌, ◌≤◌, ◌<◌, min}
use native.Mathlib.Omega.{arith}
use lib.Dec.{eqb}
use lib.ListN.{length, take, drop, length-drop, drop_of_length-le}
use lib.Seq.{drop-drop}
use Rattle.terms.proofs.Tests.{le_or_lt}
use Rattle.entry.specs.Text.{onto, text_lines, goes_on}
use Rattle.entry.specs.Records.{record_in}
use Rattle.entry.specs.Steps.{run_of, line_of, line_after, line_at, Reached}
use Rattle.entry.specs.declared.Notation.{Notation}
use Rattle.entry.specs.declared.Record.{Record}
use Rattle.entry.specs.declared.Run.TheVariants.{Line}

module _ (b : ℕ) (l : List ℕ) where
  newline_now : eqb b 10 ≡ true → text_lines (b ∷ l) ≡ [] ∷ text_lines l
  unfolding text_lines
  newline_now e = simp e

  newline_later : eqb b 10 ≡ false → text_lines (b ∷ l) ≡ onto b (text_lines l)
  unfolding text_lines
  newline_later e = simp e

  run_now : eqb b 10 ≡ true → run_of Line (b ∷ l) ≡ 0
  unfolding run_of goes_on
  run_now e = simp e

  run_later : eqb b 10 ≡ false → run_of Line (b ∷ l) ≡ suc (run_of Line l)
  unfolding run_of goes_on
  run_later e = simp e

-- onto the first line of what follows, or onto nothing
onto_first : (b : ℕ) (l : List ℕ) → (0 < length l → text_lines l ≡ take (run_of Line l) l ∷ text_lines (drop (suc (run_of Line l)) l))
    → onto b (text_lines l) ≡ (b ∷ take (run_of Line l) l) ∷ text_lines (drop (suc (run_of Line l)) l)
unfolding text_lines run_of
onto_first b [] again = refl
onto_first b (x ∷ l) again = ap (onto b) (again (omega arith))

first_line : (l : List ℕ) → 0 < length l → text_lines l ≡ take (run_of Line l) l ∷ text_lines (drop (suc (run_of Line l)) l)
first_line [] h = absurd (omega arith)
first_line (b ∷ l) h = go (eqb b 10) refl (onto_first b l (first_line l))
  where
    go : (t : Bool) → eqb b 10 ≡ t → onto b (text_lines l) ≡ (b ∷ take (run_of Line l) l) ∷ text_lines (drop (suc (run_of Line l)) l)
        → text_lines (b ∷ l) ≡ take (run_of Line (b ∷ l)) (b ∷ l) ∷ text_lines (drop (suc (run_of Line (b ∷ l))) (b ∷ l))
    go true e again = newline_now b l e ∙ sym (ap (λ (n : ℕ). take n (b ∷ l) ∷ text_lines (drop (suc n) (b ∷ l))) (run_now b l e))
    go false e again = newline_later b l e ∙ again ∙ sym (ap (λ (n : ℕ). take n (b ∷ l) ∷ text_lines (drop (suc n) (b ∷ l))) (run_later b l e))

drop_min : (n : ℕ) (l : List ℕ) → drop n l ≡ drop (min n (length l)) l
drop_min n l =
    ⊎_elim (λ h. let m : n ≡ min n (length l) = omega arith in ap (λ (k : ℕ). drop k l) m)
    (λ h. let m : length l ≤ min n (length l) = omega arith in drop_of_length-le l {i = n} (omega arith) ∙ sym (drop_of_length-le l m)) (le_or_lt n (length l))

-- the lines from a place on: the one that begins there, and those after it
pub lines_at : (text : List ℕ) {at : ℕ} → at < length text → text_lines (drop at text) ≡ line_of text at ∷ text_lines (drop (line_after text at) text)
unfolding line_of line_after
lines_at text {at} inside =
    let n = run_of Line (drop at text) in
    let m : at + suc n ≡ suc (at + n) = omega arith in
    first_line (drop at text) (omega (arith, length-drop at text))
    ∙ ap (λ (l : List ℕ). line_of text at ∷ text_lines l) (drop-drop (suc n) at text ∙ ap (λ (k : ℕ). drop k text) m ∙ drop_min (suc (at + n)) text)

-- a run that stops at the newline gives the line and the place of the next
module _ {text : List ℕ} {at end : ℕ} (run : Reached Line text at end) where
  line_cut : take (end - at) (drop at text) ≡ line_of text at
  unfolding line_of
  line_cut = let n : end - at ≡ run_of Line (drop at text) = omega (arith, run.same) in ap (λ (k : ℕ). take k (drop at text)) n

  line_next : min (suc end) (length text) ≡ line_after text at
  unfolding line_after
  line_next = ap (λ (k : ℕ). min (suc k) (length text)) run.same

  pub line_found : (by : Notation) {found : Record} {next : ℕ} → found ≡ record_in by (take (end - at) (drop at text)) → next ≡ min (suc end) (length text)
      → record { found = found; next = next } ≡ line_at by text at
  line_found by its after = λ i. record { found = (its ∙ ap (record_in by) line_cut) i; next = (after ∙ line_next) i }

-- the next begins later, and within the text
pub line_later : (text : List ℕ) {at : ℕ} → at < length text → (at < line_after text at) × (line_after text at ≤ length text)
unfolding line_after
line_later text inside = (omega arith, omega arith)

pub no_lines : (text : List ℕ) {at : ℕ} → length text ≤ at → text_lines (drop at text) ≡ []
unfolding text_lines
no_lines text h = ap text_lines (drop_of_length-le text h)
