-- Where a text was read: its content, and the parts of the buffers that hold it. Assumes nothing.
use Prim.Native.Nat.{ℕ, ◌≤◌}
use mathlib.Core.Path.{◌≡◌, refl, sym, ap, ◌∙◌}
use mathlib.Core.List.{List, [], ◌∷◌, ◌++◌}
use native.Mathlib.Omega.{arith}
use borrow.Author.Tests.{le-ltb, le-leb}
use lib.IntN.{ℤ}
use lib.ListN.{length, take, drop, length-append}
use lib.Seq.{length-take-le}
use Rattle.std.specs.Prelude.{Ok, Err}
use Rattle.workfile.specs.Content.{Content, most_file_lines}
use Rattle.workfile.specs.Promises.{Rooms, over, counted}
use Rattle.workfile.specs.declared.Contents.{Contents}
use Rattle.entry.specs.declared.Notation.{Notation}
use Rattle.notation.specs.Contents.{Reading, says, faulty, text_of}
use Rattle.notation.specs.Parse.{reading_counts, left_over, room_for, parse_of, ParsePromise}
use Rattle.notation.specs.declared.Fault.{Fault}
use Rattle.notation.proofs.Answers.{was_said, was_faulty}
use Rattle.notation.proofs.Laws.{text_counts}

-- with room for every legal file the answer is what the text says
pub roomy : (by : Notation) (text w v : List ℕ) (e : List ℤ) → Rooms w v e → parse_of by text (length w) (length v) (length e) ≡ text_of by text
unfolding parse_of room_for
roomy by text w v e rooms = simp (le-ltb _ _ rooms.words, le-ltb _ _ rooms.values, le-leb _ _ rooms.errors)

-- what was laid over a buffer is its first part
front_over : {A : Type 0} (new old : List A) → take (length new) (over new old) ≡ new
front_over new old = go new (drop (length new) old)
  where
    go : {A : Type 0} (l rest : List A) → take (length l) (l ++ rest) ≡ l
    go [] rest = refl
    go (x ∷ l) rest = ap (λ m. x ∷ m) (go l rest)

held : {A : Type 0} (new old : List A) {result : List A} {n : ℕ} → result ≡ over new old → length new ≡ n → take n result ≡ new
held new old is many = (λ i. take (sym many i) (is i)) ∙ front_over new old

fits : {A : Type 0} (new old : List A) {result : List A} {n : ℕ} → result ≡ over new old → length new ≡ n → n ≤ length result
fits new old is many = omega (arith, ap length is, length-append new (drop (length new) old), many)

-- a part that is handed on is as long as it is said to be
pub part_long : {A : Type 0} (n : ℕ) (l : List A) → n ≤ length l → n ≡ length (take n l)
part_long n l h = sym (length-take-le n l h)

-- the fault of a text that has one
pub fault_told : {by : Notation} {text w v w' v' : List ℕ} {e e' : List ℤ} → Rooms w v e → {fault : Fault} → ParsePromise by text w v e (Err fault) w' v' e' →
    text_of by text ≡ faulty fault.wrong fault.line
fault_told {by} {text} {w} {v} {w'} {v'} {e} rooms p = was_faulty (text_of by text) (ap reading_counts (sym (roomy by text w v e rooms)) ∙ sym p.answer)

-- where a text was read: the buffers before
pub record AtParsed (by : Notation) (text : List ℕ) (k : Contents) (words' values' : List ℕ) (errors' : List ℤ) : Type 0 where
  pub words : List ℕ
  pub values : List ℕ
  pub errors : List ℤ
  pub rooms : Rooms words values errors
  pub promise : ParsePromise by text words values errors (Ok k) words' values' errors'

module _ {by : Notation} {text : List ℕ} {k : Contents} {w v : List ℕ} {e : List ℤ} (at : AtParsed by text k w v e) where
  abbrev reading : Reading Content
  reading = parse_of by text (length at.words) (length at.values) (length at.errors)

  abbrev said : (c : Content) × (reading ≡ says c) × (counted c ≡ k)
  said = was_said reading (sym at.promise.answer)

  abbrev pub content : Content
  content = said.0

  pub content_told : text_of by text ≡ says content
  content_told = sym (roomy by text at.words at.values at.errors at.rooms) ∙ said.1

  -- the counts of the answer are those of the content, and its plan is that of the content
  pub counts_told : counted content ≡ k
  counts_told = said.2

  words_many : length content.words ≡ k.words
  words_many = ap (λ (x : Contents). x.words) counts_told

  lines_many : length content.values ≡ k.lines
  lines_many = ap (λ (x : Contents). x.lines) counts_told

  errors_many : length content.errors ≡ k.lines
  errors_many = (text_counts by text content content_told).same ∙ lines_many

  words_over : w ≡ over content.words at.words
  words_over = at.promise.words_left ∙ ap (left_over (λ c. c.words) at.words) said.1

  values_over : v ≡ over content.values at.values
  values_over = at.promise.values_left ∙ ap (left_over (λ c. c.values) at.values) said.1

  errors_over : e ≡ over content.errors at.errors
  errors_over = at.promise.errors_left ∙ ap (left_over (λ c. c.errors) at.errors) said.1

  -- the first part of each buffer is what was read
  pub words_held : take k.words w ≡ content.words
  words_held = held content.words at.words words_over words_many

  pub values_held : take k.lines v ≡ content.values
  values_held = held content.values at.values values_over lines_many

  pub errors_held : take k.lines e ≡ content.errors
  errors_held = held content.errors at.errors errors_over errors_many

  -- and the buffer is as long
  pub words_fit : k.words ≤ length w
  words_fit = fits content.words at.words words_over words_many

  pub values_fit : k.lines ≤ length v
  values_fit = fits content.values at.values values_over lines_many

  pub errors_fit : k.lines ≤ length e
  errors_fit = fits content.errors at.errors errors_over errors_many

  pub few_lines : length (take k.lines v) ≤ most_file_lines
  few_lines = omega (arith, ap length values_held, (text_counts by text content content_told).few_lines)
