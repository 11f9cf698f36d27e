-- What is replied to a text of a ledger in strata: its sheet, or its first fault. Definitions: nothing is assumed.
use Rattle.std.specs.Prelude.{ℕ, ◌≤◌, ◌≡◌, List, ◌++◌, ℤ, length, drop, Result}
use Rattle.workfile.specs.Content.{Content, most_file_lines}
use Rattle.entry.specs.declared.Notation.{Notation}
use Rattle.notation.specs.Contents.{Reading, says, faulty, reads, text_of}
use Rattle.divided.specs.Divided.{divided_of}
use Rattle.handout.specs.Handout.{handout_text}
use Rattle.notation.specs.declared.Fault.{Fault}

-- what follows from a reading; a fault is a fault of what follows too
abbrev pub onward : {A B : Type 0} → (A → Reading B) → Reading A → Reading B
onward next (says a) = next a
onward next (faulty wrong line) = faulty wrong line

-- the strata of a text whose lines are right, and the sheet of what they hold
unfoldable pub content_reply : ℕ → List ℕ → List ℕ → List ℤ → List ℕ → Reading (List ℕ)
unfolding divided_of handout_text
content_reply draws words values errors text = onward (λ counts. says (handout_text draws counts words values errors)) (divided_of text)

-- a text: the faults of its lines come before those of its strata; N's number of draws stands where P has AE
unfoldable pub reply_of : List ℕ → Reading (List ℕ)
unfolding text_of content_reply
reply_of text = onward (λ (c : Content). content_reply c.plan.ae c.words c.values c.errors text) (text_of Notation.Programmes text)

-- no sheet of a text is longer: 136 + 90 × 2,048 lines + 349 × 32 strata (`room_for` of crate handout)
abbrev pub longest_reply : ℕ
longest_reply = 195624

-- the page afterwards: the sheet laid over it; a fault leaves what was there
abbrev pub page_with : List ℕ → Reading (List ℕ) → List ℕ
page_with page (says sheet) = sheet ++ drop (length sheet) page
page_with page (faulty wrong line) = page

-- what is promised of a reply: the answer is how long the sheet is, or what is wrong and in which line
pub record ReplyPromise (o : Reading (List ℕ)) (page : List ℕ) (r : Result ℕ Fault) (page' : List ℕ) : Type 0 where
  pub answer : reads r ≡ onward (λ sheet. says (length sheet)) o
  pub page_left : page' ≡ page_with page o

-- a content of no more lines than a text may have, and a page that holds every sheet
pub record HasRoom (values page : List ℕ) : Type 0 where
  pub few : length values ≤ most_file_lines
  pub room : longest_reply ≤ length page
