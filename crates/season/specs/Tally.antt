-- The tally of a season: its cells, its largest sum, the one before the first judgement, which share leads, and what one more makes of it.
-- Definitions: nothing is assumed.
use Rattle.std.specs.Prelude.{ℕ, ◌+◌, ◌*◌, Bool, true, eqb, ltb, get_or, set, replicate, Option}
use Rattle.terms.specs.Numbers.{pick}
use Rattle.factors.specs.declared.Level.{Level}
use Rattle.factors.specs.Levels.{row_of}
use Rattle.judge.specs.declared.Verdict.{Verdict}
use Rattle.judge.specs.declared.Verdict.TheVariants.{Below, Inconclusive, Above}
use Rattle.ratio.specs.Ratio.{exceeds}
use Rattle.season.specs.declared.{Judged.Judged, Tally.Tally}

-- what is added to a tally: a judgement, or none for one that was refused
abbrev pub Entry : Type 0
Entry = Option Judged

-- the largest number of 64 bits
abbrev pub most_sum : ℕ
most_sum = 18446744073709551615

-- a row for each level, with the columns below, inconclusive and above
abbrev pub column_of : Verdict → ℕ
column_of Below = 0
column_of Inconclusive = 1
column_of Above = 2

unfoldable pub cell_of : Level → Verdict → ℕ
cell_of level verdict = row_of level * 3 + column_of verdict

-- a share is the largest so far where there is none yet, or where it is above the largest: on a tie the earliest stays
unfoldable pub leads_of : ℕ → ℕ → ℕ → ℕ → Bool
leads_of limit book worstLimit worstBook = pick (eqb worstBook 0) true (exceeds limit book worstLimit worstBook)

-- a sum would pass 64 bits: that of the books, that of the limits, or the count, which is a sum of ones
unfoldable pub passes_of : ℕ → ℕ → ℕ → ℕ → ℕ → Bool
passes_of books book limits limit count =
    pick (ltb most_sum (books + book)) true (pick (ltb most_sum (limits + limit)) true (ltb most_sum (count + 1)))

-- before the first judgement
unfoldable pub no_tally : Tally
no_tally =
    record {
      counts = replicate 27 0;
      books = 0;
      limits = 0;
      refused = 0;
      added = 0;
      worst = 0;
      worst_limit = 0;
      worst_book = 0;
    }

-- one judgement more: one at its place of the counts, and the sums; its own place is the number added before it
unfoldable pub with_judged : Tally → ℕ → Judged → Tally
with_judged t at j =
    let leading = leads_of j.limit j.book t.worst_limit t.worst_book in
    record {
      counts = set t.counts at (get_or t.counts at 0 + 1);
      books = t.books + j.book;
      limits = t.limits + j.limit;
      refused = t.refused;
      added = t.added + 1;
      worst = pick leading t.added t.worst;
      worst_limit = pick leading j.limit t.worst_limit;
      worst_book = pick leading j.book t.worst_book;
    }

-- one that was refused is counted apart, and touches nothing else
unfoldable pub with_not_judged : Tally → Tally
with_not_judged t =
    record {
      counts = t.counts;
      books = t.books;
      limits = t.limits;
      refused = t.refused + 1;
      added = t.added + 1;
      worst = t.worst;
      worst_limit = t.worst_limit;
      worst_book = t.worst_book;
    }
