-- The season's sheet as text: a line a level, then the sums and the worst. Definitions: nothing is assumed.
use Rattle.std.specs.Prelude.{ℕ, ◌≤◌, List, [], ◌∷◌, ◌++◌, map, length, get_or}
use Rattle.terms.specs.Outcome.{Outcome}
use Rattle.factors.specs.declared.Level.{Level}
use Rattle.factors.specs.declared.Level.TheVariants.{P99, P95, P90, P85, P80, P75, P70, P60, P50}
use Rattle.factors.specs.Levels.{percent_of}
use Rattle.judge.specs.declared.Verdict.TheVariants.{Below, Inconclusive, Above}
use Rattle.pen.specs.Letters.{letters}
use Rattle.pen.specs.Text.{decimal, line}
use Rattle.pen.specs.Page.{Wrote}
use Rattle.sheet.specs.Sheet.{text_by}
use Rattle.season.specs.declared.Tally.{Tally}
use Rattle.season.specs.Tally.{cell_of}
use Rattle.filing.specs.Filing.{files_of}

-- a level: its percent, and how many are below, inconclusive and above
unfoldable pub level_line : List ℕ → Level → List ℕ
level_line counts level =
    line (letters "level" ∷ map decimal
    (percent_of level ∷ get_or counts (cell_of level Below) 0 ∷ get_or counts (cell_of level Inconclusive) 0 ∷ get_or counts (cell_of level Above) 0 ∷ []))

abbrev pub three_lines : List ℕ → Level → Level → Level → List ℕ
three_lines counts one two three = level_line counts one ++ (level_line counts two ++ level_line counts three)

-- a line a level, 99 first
abbrev pub levels_text : List ℕ → List ℕ
levels_text counts = three_lines counts P99 P95 P90 ++ (three_lines counts P85 P80 P75 ++ three_lines counts P70 P60 P50)

-- the books, the limits, the refused ones and all that were added
abbrev pub sums_line : Tally → List ℕ
sums_line t = line (letters "sums" ∷ map decimal (t.books ∷ t.limits ∷ t.refused ∷ t.added ∷ []))

-- the place of the largest share, its limit and its book
abbrev pub worst_line : Tally → List ℕ
worst_line t = line (letters "worst" ∷ map decimal (t.worst ∷ t.worst_limit ∷ t.worst_book ∷ []))

unfoldable pub tally_text : Tally → List ℕ
tally_text t = levels_text t.counts ++ (sums_line t ++ worst_line t)

-- the sheet, or the one line of a refusal
unfoldable pub season_text : Outcome Tally → List ℕ
season_text o = text_by tally_text o

-- of working files that stand in a row
unfoldable pub overview_text : List ℕ → List ℕ
unfolding season_text
overview_text files = season_text (files_of files)

-- a text is written, and is no longer than this
pub record Bounded (old : List ℕ) (at : ℕ) (text new : List ℕ) (next most : ℕ) : Type 0 where
  pub wrote : Wrote old at text new next
  pub short : length text ≤ most

-- no sheet is longer: nine lines of 90 bytes, one of 89 and one of 69
abbrev pub longest_overview : ℕ
longest_overview = 968
