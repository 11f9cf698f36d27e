-- The desk program's whole text for every input. Definitions: nothing is assumed.
use Rattle.std.specs.Prelude.{ℕ, ◌≡◌, Bool, List, ◌++◌, eqb, ltb, ℤ, length, get_or, drop, Result}
use Rattle.terms.specs.declared.Refusal.{Refusal}
use Rattle.terms.specs.Outcome.{Outcome, accepted, refused, left, says}
use Rattle.terms.specs.Numbers.{pick}
use Rattle.workfile.specs.declared.Plan.{Plan}
use Rattle.workfile.specs.Content.{Content}
use Rattle.workfile.specs.Decode.{decode}
use Rattle.steps.specs.Steps.{steps_of}
use Rattle.sheet.specs.Lines.{answers_text, refused_line}

-- the text of an outcome: that of what is accepted, or the one line of a refusal
abbrev pub text_by : {A : Type 0} → (A → List ℕ) → Outcome A → List ℕ
text_by text (accepted a) = text a
text_by text (refused number place) = refused_line number place

-- from a file's content
unfoldable pub steps_text : Plan → List ℕ → List ℕ → List ℤ → List ℕ
steps_text plan words ledger errors = text_by (answers_text ledger errors) (steps_of plan words ledger errors)

abbrev pub content_text : Content → List ℕ
content_text c = steps_text c.plan c.words c.values c.errors

-- the desk program reads first (17)
unfoldable pub sheet_text : List ℕ → List ℕ
sheet_text file = text_by content_text (decode file)

-- K12 of document 02: the method is the blackboard's where an input begins with the byte 0x42, before P;
abbrev pub by_board : List ℕ → Bool
by_board input = eqb (get_or input 0 0) 0x42

-- then what follows that byte is the file. A second one is a byte of the file.
unfoldable pub file_of : List ℕ → List ℕ
file_of input = pick (by_board input) (drop 1 input) input

-- what is printed of an input, places included, is what is printed of its file by either method
unfoldable pub desk_text : List ℕ → List ℕ
desk_text input = sheet_text (file_of input)

-- No text is longer, as `print_file` ensures: 90 bytes for each of 2,048 lines, and 464 for the other five.
abbrev pub longest_text : ℕ
longest_text = 184784

unfoldable pub sheet_of : List ℕ → ℕ → Outcome ℕ
sheet_of input room = pick (ltb room longest_text) (refused 18 longest_text) (accepted (length (desk_text input)))

pub record SheetPromise (input page : List ℕ) (r : Result ℕ Refusal) (page' : List ℕ) : Type 0 where
  pub answer : says r ≡ sheet_of input (length page)
  pub page_left : page' ≡ left (λ bytes. desk_text input ++ drop bytes page) page (sheet_of input (length page))
