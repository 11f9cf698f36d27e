-- What `parse` answers and leaves in the lent buffers. Definitions: nothing is assumed.
use Rattle.std.specs.Prelude.{ℕ, ◌≡◌, Bool, false, List, ℤ, leb, ltb, length, Result}
use Rattle.terms.specs.Numbers.{pick}
use Rattle.workfile.specs.Content.{Content, most_words, most_file_lines}
use Rattle.workfile.specs.Promises.{over, counted}
use Rattle.workfile.specs.declared.Contents.{Contents}
use Rattle.entry.specs.declared.{Notation.Notation, Wrong.Wrong}
use Rattle.notation.specs.Contents.{Reading, says, faulty, reads, text_of}
use Rattle.notation.specs.declared.Fault.{Fault}

abbrev pub reading_counts : Reading Content → Reading Contents
reading_counts (says c) = says (counted c)
reading_counts (faulty wrong line) = faulty wrong line

-- a lent buffer at exit: what was read laid over it; a faulty text leaves what was there
abbrev pub left_over : {A : Type 0} → (Content → List A) → List A → Reading Content → List A
left_over part before (says c) = over (part c) before
left_over part before (faulty wrong line) = before

-- room for every legal file
unfoldable pub room_for : ℕ → ℕ → ℕ → Bool
room_for words values errors = pick (ltb words most_words) false (pick (ltb values most_file_lines) false (leb most_file_lines errors))

-- What a text says to a caller with room for so many words, values and errors. No room is a fault of no line.
unfoldable pub parse_of : Notation → List ℕ → ℕ → ℕ → ℕ → Reading Content
unfolding room_for text_of
parse_of by text words values errors = pick (room_for words values errors) (text_of by text) (faulty Wrong.NoRoom 0)

-- the parser's promise: words, values and errors are the buffers before, words', values' and errors' after
pub record ParsePromise (by : Notation) (text words values : List ℕ) (errors : List ℤ) (r : Result Contents Fault) (words' values' : List ℕ) (errors' : List ℤ) : Type 0 where
  pub answer : reads r ≡ reading_counts (parse_of by text (length words) (length values) (length errors))
  pub words_left : words' ≡ left_over (λ c. c.words) words (parse_of by text (length words) (length values) (length errors))
  pub values_left : values' ≡ left_over (λ c. c.values) values (parse_of by text (length words) (length values) (length errors))
  pub errors_left : errors' ≡ left_over (λ c. c.errors) errors (parse_of by text (length words) (length values) (length errors))
