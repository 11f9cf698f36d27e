-- Where a file was read: what the buffers hold, and how long it is. Assumes nothing.
use Prim.Native.Nat.{ℕ, zero, suc, ◌≤◌}
use Rattle.std.specs.Prelude.{Result, Ok, Err}
use native.Mathlib.Omega.{arith}
use mathlib.Core.Path.{◌≡◌, sym, ap, ◌∙◌}
use mathlib.Core.List.{List, [], ◌∷◌}
use lib.ListN.{length, take, replicate}
use lib.IntN.{ℤ, pos}
use Rattle.terms.specs.declared.Refusal.{Refusal}
use Rattle.terms.specs.Refusals.{number, place}
use Rattle.terms.specs.Outcome.{accepted, refused, says}
use Rattle.terms.proofs.Outcomes.{refused_first}
use Rattle.workfile.specs.Content.{most_words, most_file_lines}
use Rattle.workfile.specs.Decode.{decode}
use Rattle.workfile.specs.Promises.{counted, counts_of, Rooms, ReadPromise}
use Rattle.workfile.specs.declared.Contents.{Contents}
use Rattle.workfile.proofs.OneFile.{read_counts}
use Rattle.workfile.proofs.Promises.{roomy, held_by, held}

take_short : {A : Type 0} (n : ℕ) (l : List A) → length (take n l) ≤ length l
take_short zero l = omega arith
take_short (suc n) [] = omega arith
take_short (suc n) (x ∷ l) = omega (arith, take_short n l)

-- empty buffers of the largest counts hold every legal file
pub empty_rooms : Rooms (replicate most_words 0) (replicate most_file_lines 0) (replicate most_file_lines (pos 0))
empty_rooms = record { words = omega arith; values = omega arith; errors = omega arith }

-- with room for every legal file the answer is what the file decides
decoded : {file w v w' v' : List ℕ} {e e' : List ℤ} {r : Result Contents Refusal} → Rooms w v e → ReadPromise file w v e r w' v' e' → says r ≡ counts_of (decode file)
decoded {file} {w} {v} {e} rooms p = p.answer ∙ ap counts_of (roomy file w v e rooms)

pub read_refused : {file w v w' v' : List ℕ} {e e' : List ℤ} {r : Result Contents Refusal} → Rooms w v e → ReadPromise file w v e r w' v' e' → (why : Refusal) → r ≡ Err why →
    decode file ≡ refused (number why) (place why)
read_refused {file} rooms p why is = refused_first counted (decode file) (sym (ap says is) ∙ decoded rooms p)

-- where a file was read: the buffers and the answer
pub record AtRead (file : List ℕ) (k : Contents) (words' values' : List ℕ) (errors' : List ℤ) : Type 0 where
  pub words : List ℕ
  pub values : List ℕ
  pub errors : List ℤ
  pub answer : (Result Contents Refusal)
  pub rooms : Rooms words values errors
  pub promise : ReadPromise file words values errors answer words' values' errors'
  pub told : answer ≡ Ok k

module _ {file : List ℕ} {k : Contents} {w v : List ℕ} {e : List ℤ} (at : AtRead file k w v e) where
  pub decodes : decode file ≡ accepted (held_by k w v e)
  decodes = held k at.promise (ap says at.told)

  counts_are : counted (held_by k w v e) ≡ k
  counts_are = let z : accepted (counted (held_by k w v e)) ≡ accepted k = sym (ap counts_of decodes) ∙ sym (decoded at.rooms at.promise) ∙ ap says at.told in cc

  -- as many entries as the answer counts were read, and the rooms have so many
  pub words_long : k.words ≡ length (take k.words w)
  words_long = sym (ap (λ (x : Contents). x.words) counts_are)

  pub values_long : k.lines ≡ length (take k.lines v)
  values_long = sym (ap (λ (x : Contents). x.lines) counts_are)

  pub errors_long : k.lines ≡ length (take k.lines e)
  errors_long = values_long ∙ sym (read_counts file (held_by k w v e) decodes).same

  pub words_fit : k.words ≤ length w
  words_fit = omega (arith, words_long, take_short k.words w)

  pub values_fit : k.lines ≤ length v
  values_fit = omega (arith, values_long, take_short k.lines v)

  pub errors_fit : k.lines ≤ length e
  errors_fit = omega (arith, errors_long, take_short k.lines e)
