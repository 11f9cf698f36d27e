-- Demand 2's last sentence as promises: what is written reads back to the same content, and what is read and written again is the same
-- file. Definitions: nothing is assumed.
use Rattle.std.specs.Prelude.{ℕ, ◌≡◌, List, ℤ, length, Result}
use Rattle.terms.specs.declared.Refusal.{Refusal}
use Rattle.workfile.specs.declared.Contents.{Contents}
use Rattle.terms.specs.Outcome.{accepted, after, left, says}
use Rattle.workfile.specs.declared.{Plan.Plan}
use Rattle.workfile.specs.Content.{Content, encode}
use Rattle.workfile.specs.Decode.{decode}
use Rattle.workfile.specs.Promises.{over, counted, write_of, content_with}

-- A content is written and its file is read: refused only where the write is. Else the answer is that very content's, the words, values and
-- errors that were handed in stand in the buffers that are read into, and entries past them stay. before is what was in a buffer.
pub record WriteThenRead (plan : Plan) (words values : List ℕ) (errors : List ℤ) (file words-before values-before : List ℕ) (errors-before : List ℤ) (r : Result Contents Refusal) (file' words-read values-read : List ℕ) (errors-read : List ℤ) : Type 0 where
  pub answer : says r ≡ after (λ bytes. accepted (counted (content_with plan words values errors))) (write_of (content_with plan words values errors) (length file))
  pub file_left : file' ≡ left (λ bytes. over bytes file) file (write_of (content_with plan words values errors) (length file))
  pub words_left : words-read ≡ left (λ bytes. over words words-before) words-before (write_of (content_with plan words values errors) (length file))
  pub values_left : values-read ≡ left (λ bytes. over values values-before) values-before (write_of (content_with plan words values errors) (length file))
  pub errors_left : errors-read ≡ left (λ bytes. over errors errors-before) errors-before (write_of (content_with plan words values errors) (length file))

-- A file is read and its content is written again: refused only where the file is. Else the very bytes of the file stand in the buffer,
-- and the rest of it stays. The file of that content is this one, so no second file has it.
pub record ReadThenWrite (file again : List ℕ) (r : Result ℕ Refusal) (again' : List ℕ) : Type 0 where
  pub answer : says r ≡ after (λ content. accepted (length file)) (decode file)
  pub again_left : again' ≡ left (λ content. over file again) again (decode file)
  pub only_file : (content : Content) → decode file ≡ accepted content → encode content ≡ file
