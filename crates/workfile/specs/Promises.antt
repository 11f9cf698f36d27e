-- What the reader and the writer promise: the answer, and every lent buffer afterwards. Definitions: nothing is assumed.
use Rattle.std.specs.Prelude.{ℕ, ◌≤◌, ◌≡◌, Bool, ◌&&◌, List, ◌++◌, leb, ltb, eqb, ℤ, length, drop, Result}
use Rattle.terms.specs.declared.Refusal.{Refusal}
use Rattle.terms.specs.Outcome.{Outcome, accepted, refused, after, left, says}
use Rattle.terms.specs.Numbers.{pick, sum}
use Rattle.workfile.specs.Content.{Content, most_words, most_file_lines, sum_bound, encode}
use Rattle.workfile.specs.Decode.{decode}
use Rattle.workfile.specs.declared.{Plan.Plan, Contents.Contents}

-- entries past the new ones stay untouched
abbrev pub over : {A : Type 0} → List A → List A → List A
over new old = new ++ drop (length new) old

abbrev pub counted : Content → Contents
counted c = record { level = c.plan.level; te = c.plan.te; ae = c.plan.ae; words = length c.words; lines = length c.values }

abbrev pub counts_of : Outcome Content → Outcome Contents
counts_of o = after (λ c. accepted (counted c)) o

-- 18 with the first number of entries that is not met, before what the file says
abbrev pub with_room : ℕ → ℕ → ℕ → Outcome Content → Outcome Content
with_room words values errors reading =
    pick (ltb words most_words) (refused 18 most_words)
    (pick (ltb values most_file_lines) (refused 18 most_file_lines) (pick (ltb errors most_file_lines) (refused 18 most_file_lines) reading))

-- what reading gives, with room for so many words, values and errors
unfoldable pub read_of : List ℕ → ℕ → ℕ → ℕ → Outcome Content
read_of file words values errors = with_room words values errors (decode file)

-- room for every legal file
pub record Rooms (w v : List ℕ) (e : List ℤ) : Type 0 where
  pub words : most_words ≤ length w
  pub values : most_file_lines ≤ length v
  pub errors : most_file_lines ≤ length e

-- the reader's promise: words, values and errors are the buffers before, words', values' and errors' after
pub record ReadPromise (file words values : List ℕ) (errors : List ℤ) (r : Result Contents Refusal) (words' values' : List ℕ) (errors' : List ℤ) : Type 0 where
  pub answer : says r ≡ counts_of (read_of file (length words) (length values) (length errors))
  pub words_left : words' ≡ left (λ c. over c.words words) words (read_of file (length words) (length values) (length errors))
  pub values_left : values' ≡ left (λ c. over c.values values) values (read_of file (length words) (length values) (length errors))
  pub errors_left : errors' ≡ left (λ c. over c.errors errors) errors (read_of file (length words) (length values) (length errors))

-- whether a content has a legal file
abbrev pub has_file : Content → Bool
has_file c = leb (length c.words) most_words && (leb (length c.values) most_file_lines && ltb (sum c.values) sum_bound)

-- the file that is to be written into so many bytes of room: 13, then 19, then 18 with the bytes needed
unfoldable pub write_of : Content → ℕ → Outcome (List ℕ)
write_of c room =
    pick (eqb (length c.errors) (length c.values))
    (pick (has_file c) (pick (ltb room (length (encode c))) (refused 18 (length (encode c))) (accepted (encode c))) (refused 19 0)) (refused 13 0)

-- what is handed to the writer
abbrev pub plan_with : ℕ → ℕ → ℕ → Plan
plan_with level te ae = record { level = level; te = te; ae = ae }

abbrev pub content_with : Plan → List ℕ → List ℕ → List ℤ → Content
content_with plan words values errors = record { plan = plan; words = words; values = values; errors = errors }

-- the writer's promise: file is the buffer before, file' after
pub record WritePromise (plan : Plan) (words values : List ℕ) (errors : List ℤ) (file : List ℕ) (r : Result ℕ Refusal) (file' : List ℕ) : Type 0 where
  pub answer : says r ≡ after (λ bs. accepted (length bs)) (write_of (content_with plan words values errors) (length file))
  pub file_left : file' ≡ left (λ bs. over bs file) file (write_of (content_with plan words values errors) (length file))
