-- The lines of the sheet, as document 01 has them under "The practice sheet", and document 02's K5. Definitions: nothing is assumed.
use Rattle.std.specs.Prelude.{ℕ, suc, Bool, List, [], ◌∷◌, ◌++◌, ℤ, pos, get_or, drop}
use Rattle.signed.specs.declared.Part.TheVariants.{Size}
use Rattle.signed.specs.Errors.{is_under}
use Rattle.pen.specs.Letters.{letters}
use Rattle.pen.specs.Text.{decimal, sized_text, signed_text, line}
use Rattle.split.specs.declared.Figures.{Figures}
use Rattle.start.specs.declared.Chosen.{Chosen}
use Rattle.project.specs.declared.{State.State, Line.Line, Projection.Projection}
use Rattle.project.specs.Project.{lines_with}
use Rattle.judge.specs.declared.{Verdict.Verdict, Judgement.Judgement}
use Rattle.judge.specs.declared.Verdict.TheVariants.{Below, Inconclusive, Above}
use Rattle.steps.specs.declared.{Planned.Planned, Answers.Answers}

-- plan: level, total, TE, AE, draws
abbrev pub plan_line : Planned → List ℕ
plan_line p = line (letters "plan" ∷ decimal p.level ∷ decimal p.total ∷ decimal p.te ∷ decimal p.ae ∷ decimal p.draws ∷ [])

-- split: interval, draws left, sampled total, full lines, full total
abbrev pub split_line : Figures → List ℕ
split_line f =
    line (letters "split" ∷ decimal f.interval ∷ decimal f.draws_left ∷ decimal f.sampled_total ∷ decimal f.full_lines ∷ decimal f.full_total ∷ [])

-- start: start, words read
abbrev pub start_line : Chosen → List ℕ
start_line c = line (letters "start" ∷ decimal c.start ∷ decimal c.words ∷ [])

-- a drawn or full line, opening with its word: line, value, error, projected; where it is understated, error and projected have a minus
abbrev pub entry_line : List ℕ → ℕ → ℕ → Bool → ℕ → ℕ → List ℕ
entry_line word item value under error projected = line (word ∷ decimal item ∷ decimal value ∷ sized_text error under ∷ sized_text projected under ∷ [])

-- by its state: a full line projects the error itself
abbrev pub state_text : ℕ → ℕ → Bool → ℕ → State → List ℕ
state_text item value under error State.NotDrawn = []
state_text item value under error (State.Drawn projected) = entry_line (letters "drawn") item value under error projected
state_text item value under error State.Full = entry_line (letters "full") item value under error error

abbrev pub item_text : ℕ → Bool → Line → List ℕ
item_text item under l = state_text item l.value under l.error l.state

-- the lines in ledger order, from an item's number on, each with the sign of its error
unfoldable pub items_text : List ℤ → ℕ → List Line → List ℕ
items_text errors item [] = []
items_text errors item (l ∷ later) = item_text item (is_under (get_or errors 0 (pos 0))) l ++ items_text (drop 1 errors) (suc item) later

-- project: full sum, sampled sum, m; what is understated, full and sampled; the net
abbrev pub project_line : Projection → List ℕ
project_line p =
    line (letters "project" ∷ decimal p.full ∷ decimal p.sampled ∷ decimal p.m ∷ decimal p.under_full ∷ decimal p.under_sampled ∷ signed_text p.net ∷ [])

abbrev pub verdict_word : Verdict → List ℕ
verdict_word Below = letters "below"
verdict_word Inconclusive = letters "inconclusive"
verdict_word Above = letters "above"

-- judge: precision, upper limit, verdict
abbrev pub judge_line : Judgement → List ℕ
judge_line j = line (letters "judge" ∷ decimal j.precision ∷ decimal j.upper_limit ∷ verdict_word j.verdict ∷ [])

-- a refusal: its number and its place
abbrev pub refused_line : ℕ → ℕ → List ℕ
refused_line number place = line (letters "refused" ∷ decimal number ∷ decimal place ∷ [])

-- the drawn and full lines of a ledger whose first line has a number, at an interval and a start
unfoldable pub ledger_text : ℕ → ℕ → ℕ → List ℕ → List ℤ → List ℕ
ledger_text first J start ledger errors = items_text errors first (lines_with Size J start ledger errors)

-- the lines before those of the ledger, and after them
abbrev pub opening_text : Answers → List ℕ
opening_text a = plan_line a.planned ++ (split_line a.figures ++ start_line a.chosen)

abbrev pub closing_text : Judgement → List ℕ
closing_text j = project_line j.projection ++ judge_line j

-- the sheet of what the steps have answered on a ledger with its errors
unfoldable pub answers_text : List ℕ → List ℤ → Answers → List ℕ
answers_text ledger errors a = opening_text a ++ (ledger_text 0 a.figures.interval a.chosen.start ledger errors ++ closing_text a.judgement)
