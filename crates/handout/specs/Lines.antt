-- The lines of the sheet of a ledger in strata. Strata are numbered from 0, and lines in the whole ledger. Definitions: nothing is assumed.
use Rattle.std.specs.Prelude.{ℕ, zero, suc, ◌+◌, Bool, true, false, List, [], ◌∷◌, ◌++◌, ltb, ℤ, length, get_or, drop}
use Rattle.terms.specs.Numbers.{pick, sum}
use Rattle.signed.specs.Errors.{size_of}
use Rattle.pen.specs.Letters.{letters}
use Rattle.pen.specs.Text.{decimal, signed_text, line}
use Rattle.strata.specs.declared.Row.{Row}
use Rattle.strata.specs.Strata.{parts_of, no_row}
use Rattle.stratified.specs.declared.projection.ProjectionRow.{ProjectionRow}
use Rattle.stratified.specs.declared.projection.ProjectedStrata.{ProjectedStrata}
use Rattle.stratified.specs.Projection.{no_projection}
use Rattle.sheet.specs.Lines.{ledger_text}
use Rattle.handout.specs.declared.Answers.{Answers}

-- plan: draws, strata, total
abbrev pub plan_line : ℕ → ℕ → ℕ → List ℕ
plan_line draws strata total = line (letters "plan" ∷ decimal draws ∷ decimal strata ∷ decimal total ∷ [])

-- stratum: number, lines, book value, draws; interval, draws left, sampled total, full lines, full total; start, words read
abbrev pub stratum_line : ℕ → List ℕ → Row → ℕ → ℕ → List ℕ
stratum_line number part row start words =
    line
    (letters "stratum" ∷ decimal number ∷ decimal (length part) ∷ decimal (sum part) ∷ decimal row.draws ∷ decimal row.figures.interval ∷ decimal row.figures.draws_left
    ∷ decimal row.figures.sampled_total ∷ decimal row.figures.full_lines ∷ decimal row.figures.full_total ∷ decimal start ∷ decimal words ∷ [])

-- from a stratum's number on
unfoldable pub strata_text : ℕ → List (List ℕ) → List Row → List ℕ → List ℕ → List ℕ
strata_text h [] rows starts words = []
strata_text h (part ∷ later) rows starts words = stratum_line h part (get_or rows h no_row) (get_or starts h 0) (get_or words h 0) ++ strata_text (suc h) later rows starts words

-- the drawn and full lines of each stratum as the desk prints them, from a stratum's number and a line's number on
unfoldable pub drawn_text : ℕ → ℕ → List (List ℕ) → List Row → List ℕ → List (List ℤ) → List ℕ
drawn_text h first [] rows starts errors = []
drawn_text h first (part ∷ later) rows starts errors =
    ledger_text first (get_or rows h no_row).figures.interval (get_or starts h 0) part (get_or errors 0 []) ++ drawn_text (suc h) (first + length part) later rows starts (drop 1 errors)

-- sums: number, full, sampled; what is understated, full and sampled
abbrev pub sums_line : ℕ → ProjectionRow → List ℕ
sums_line number row = line (letters "sums" ∷ decimal number ∷ decimal row.full ∷ decimal row.sampled ∷ decimal row.under_full ∷ decimal row.under_sampled ∷ [])

-- of so many strata, from one's number on
unfoldable pub sums_text : ℕ → ℕ → List ProjectionRow → List ℕ
sums_text zero h rows = []
sums_text (suc more) h rows = sums_line h (get_or rows h no_projection) ++ sums_text more (suc h) rows

-- all: overstated, understated, the net
abbrev pub all_line : ProjectedStrata → List ℕ
all_line sums = line (letters "all" ∷ decimal sums.over ∷ decimal sums.under ∷ signed_text sums.net ∷ [])

abbrev pub closing_text : ℕ → ProjectedStrata → List ℕ
closing_text strata sums = sums_text strata 0 sums.rows ++ all_line sums

-- a line has an error
unfoldable pub any_error : List ℤ → Bool
any_error [] = false
any_error (e ∷ later) = pick (ltb 0 (size_of e)) true (any_error later)

-- without an error it is the sheet that goes out to the auditors: the sums are left out
abbrev pub errors_text : ℕ → List ℤ → ProjectedStrata → List ℕ
errors_text strata errors sums = pick (any_error errors) (closing_text strata sums) []

-- the sheet of what the operations have answered on a content
unfoldable pub answers_text : ℕ → List ℕ → List ℕ → List ℤ → Answers → List ℕ
answers_text draws counts ledger errors a =
    plan_line draws (length counts) (sum ledger)
    ++ (strata_text 0 (parts_of counts ledger) a.plan.rows a.chosen.starts a.chosen.words
    ++ (drawn_text 0 0 (parts_of counts ledger) a.plan.rows a.chosen.starts (parts_of counts errors) ++ errors_text (length counts) errors a.sums))
