-- Working files that stand in a row, as a season: each is judged as at the desk, and added. Definitions: nothing is assumed.
use Rattle.std.specs.Prelude.{ℕ, zero, suc, ◌+◌, List, [], ◌∷◌, ℤ, length, take, drop, Some, None}
use Rattle.terms.specs.Numbers.{pick}
use Rattle.terms.specs.Outcome.{Outcome, accepted, refused, after}
use Rattle.workfile.specs.declared.Plan.{Plan}
use Rattle.workfile.specs.Content.{Content}
use Rattle.workfile.specs.Decode.{decode}
use Rattle.reader.specs.Steps.{stopped_in}
use Rattle.steps.specs.declared.Answers.{Answers}
use Rattle.steps.specs.Steps.{steps_of}
use Rattle.season.specs.declared.Tally.{Tally}
use Rattle.season.specs.Tally.{Entry, no_tally}
use Rattle.season.specs.Add.{add_of}
use Rattle.filing.specs.declared.First.{First}

-- what the desk's steps answer of a content, as it is added: the level, the book's total, the upper limit and the verdict
abbrev pub entry_by : Outcome Answers → Entry
entry_by (accepted a) = Some (record { level = a.planned.level; book = a.planned.total; limit = a.judgement.upper_limit; verdict = a.judgement.verdict })
entry_by (refused number place) = None

unfoldable pub content_entry : Plan → List ℕ → List ℕ → List ℤ → Entry
content_entry plan words ledger errors = entry_by (steps_of plan words ledger errors)

-- a file: one that breaks a rule was refused too
abbrev pub read_entry : Outcome Content → Entry
read_entry (accepted c) = content_entry c.plan c.words c.values c.errors
read_entry (refused number place) = None

unfoldable pub file_entry : List ℕ → Entry
file_entry file = read_entry (decode file)

-- the first file of a row ends with its Z, of 13 bytes; one that breaks a rule is the last
unfoldable pub first_of : List ℕ → First
first_of row =
    let stopped = stopped_in row in
    pick stopped.ends (record { entry = file_entry (take (stopped.at + 13) row); next = stopped.at + 13 }) (record { entry = None; next = length row })

-- the files of a row, each as it is added; the first argument only bounds the recursion
unfoldable pub entries_in : ℕ → List ℕ → List Entry
unfolding first_of
entries_in zero row = []
entries_in (suc k) [] = []
entries_in (suc k) (b ∷ row) = let first = first_of (b ∷ row) in first.entry ∷ entries_in k (drop first.next (b ∷ row))

unfoldable pub entries_of : List ℕ → List Entry
unfolding entries_in
entries_of files = entries_in (length files) files

-- entries added one after the other, to the first refusal
unfoldable pub add_all : Tally → List Entry → Outcome Tally
add_all t [] = accepted t
add_all t (e ∷ es) = after (λ u. add_all u es) (add_of t e)

unfoldable pub files_of : List ℕ → Outcome Tally
unfolding entries_of add_all
files_of files = add_all no_tally (entries_of files)
