-- An error after zeros, and one record put in its place, by its kind. Assumes nothing.
use Prim.Native.Nat.{ℕ, ◌+◌, ◌-◌, ◌^◌, ◌<◌, ◌≤◌}
use mathlib.Core.Path.{◌≡◌, refl, ap, ap₂, sym, ◌∙◌}
use mathlib.Core.Bool.{Bool}
use mathlib.Core.List.{List, ◌++◌}
use native.Mathlib.Omega.{arith}
use lib.ListN.{length, drop, set}
use lib.Seq.{take-append_seam, drop-append-add, drop-drop}
use lib.IntN.{ℤ}
use lib.Signed.{mag}
use Rattle.signed.specs.Errors.{signed_of, most_size}
use Rattle.signed.proofs.Signs.{held, kept}
use Rattle.workfile.specs.Decode.{pad_to}
use Rattle.workfile.specs.Promises.{over}
use Rattle.workfile.specs.declared.Tally.{Tally}
use Rattle.workfile.specs.declared.FileRecord.{FileRecord}
use Rattle.workfile.specs.declared.FileRecord.TheVariants.{Word, Value, ErrorOf, End, Nothing}
use Rattle.workfile.proofs.Lists.{length_pad}
use Rattle.store.specs.Storing.{zeroed, Put, HasPlace}

-- an error after zeros
pub error_set : (old : List ℤ) {buffer : List ℤ} (from line : ℕ) {z e : ℤ} → buffer ≡ zeroed old from line → mag z < 2 ^ 63 → z ≡ e
    → set buffer line (held z) ≡ set (zeroed old from line) line e
error_set old from line {z} {e} cleared fits made = ap₂ (λ (l : List ℤ) (x : ℤ). set l line x) cleared (kept z fits ∙ made)

pub over_zeroed : (xs old : List ℤ) (b : ℕ) → length xs ≤ b → zeroed (over xs old) (length xs) b ≡ over (pad_to b xs) old
unfolding zeroed
over_zeroed xs old b h =
    let m : b ≡ length xs + (b - length xs) = omega arith in
    let d : drop b (over xs old) ≡ drop b old =
    ap (λ (k : ℕ). drop k (over xs old)) m ∙ drop-append-add xs (drop (length xs) old) (b - length xs)
    ∙ drop-drop (b - length xs) (length xs) old ∙ ap (λ (k : ℕ). drop k old) (sym m) in
    ap₂ (λ (y z : List ℤ). pad_to b y ++ z) (take-append_seam xs (drop (length xs) old)) d
    ∙ ap (λ (k : ℕ). pad_to b xs ++ drop k old) (sym (length_pad b xs h))

-- the place of a record, by its kind
module _ {t : Tally} {r : FileRecord} {ws vs : List ℕ} {es : List ℤ} (place : HasPlace t r ws vs es) where
  pub word_place : {w : ℕ} → r ≡ Word w → t.words < length ws
  word_place e = omega (arith, place.rooms.words, rw e at place.rule)

  pub value_place : {v : ℕ} → r ≡ Value v → t.lines < length vs
  value_place e = omega (arith, place.rooms.values, rw e at place.rule)

  pub error_after : {u : Bool} {l n : ℕ} → r ≡ ErrorOf u l n → t.next_line ≤ l
  error_after e = (rw e at place.rule).0

  pub error_place : {u : Bool} {l n : ℕ} → r ≡ ErrorOf u l n → l < length es
  error_place e = omega (arith, place.rooms.errors, place.few_lines, rw e at place.rule)

  pub error_size : {u : Bool} {l n : ℕ} → r ≡ ErrorOf u l n → n ≤ most_size u
  error_size e = (rw e at place.rule).1.1.1

  pub end_after : {n s : ℕ} → r ≡ End n s → t.next_line ≤ n
  end_after e = omega (arith, place.sound, rw e at place.rule)

  pub end_place : {n s : ℕ} → r ≡ End n s → n ≤ length es
  end_place e = omega (arith, place.rooms.errors, place.few_lines, rw e at place.rule)

-- one record stored, by its kind
module _ {t : Tally} {r : FileRecord} {ws vs : List ℕ} {es : List ℤ} where
  pub put_word : {w : ℕ} → r ≡ Word w → Put t r ws vs es (set ws t.words w) vs es
  put_word e = rw e (record { words = refl; values = refl; errors = refl })

  pub put_value : {v : ℕ} → r ≡ Value v → Put t r ws vs es ws (set vs t.lines v) es
  put_value e = rw e (record { words = refl; values = refl; errors = refl })

  pub put_error : {u : Bool} {l n : ℕ} {es' : List ℤ} → r ≡ ErrorOf u l n → es' ≡ set (zeroed es t.next_line l) l (signed_of n u) → Put t r ws vs es ws vs es'
  put_error e z = rw e (record { words = refl; values = refl; errors = z })

  pub put_end : {n s : ℕ} {es' : List ℤ} → r ≡ End n s → es' ≡ zeroed es t.next_line n → Put t r ws vs es ws vs es'
  put_end e z = rw e (record { words = refl; values = refl; errors = z })

  pub put_nothing : r ≡ Nothing → Put t r ws vs es ws vs es
  put_nothing e = rw e (record { words = refl; values = refl; errors = refl })
