-- Sheets by computation: of no file, of a byte that is no file, of a tally, and of a refusal. Assumes nothing.
use mathlib.Core.Path.{◌≡◌, refl}
use mathlib.Core.List.{[], ◌∷◌, ◌++◌}
use lib.ListN.{replicate}
use Rattle.terms.specs.Outcome.{refused}
use Rattle.pen.specs.Letters.{letters}
use Rattle.pen.specs.Text.{decimal, decimal_in}
use Rattle.reader.specs.Steps.{stopped_in}
use Rattle.season.specs.Tally.{cell_of, no_tally, with_not_judged}
use Rattle.season.specs.Add.{add_of}
use Rattle.filing.specs.Filing.{first_of, entries_in, entries_of, add_all, files_of}
use Rattle.overview.specs.Overview.{level_line, tally_text, season_text, overview_text}

pub no_file : overview_text []
    ≡ letters "level 99 0 0 0\nlevel 95 0 0 0\nlevel 90 0 0 0\nlevel 85 0 0 0\nlevel 80 0 0 0\nlevel 75 0 0 0\nlevel 70 0 0 0\nlevel 60 0 0 0\nlevel 50 0 0 0\nsums 0 0 0 0\nworst 0 0 0\n"
unfolding overview_text season_text files_of entries_of entries_in add_all no_tally tally_text level_line cell_of decimal decimal_in
no_file = refl

-- it breaks a rule, and is counted as refused
pub cut_short : overview_text (0x50 ∷ [])
    ≡ letters "level 99 0 0 0\nlevel 95 0 0 0\nlevel 90 0 0 0\nlevel 85 0 0 0\nlevel 80 0 0 0\nlevel 75 0 0 0\nlevel 70 0 0 0\nlevel 60 0 0 0\nlevel 50 0 0 0\nsums 0 0 1 1\nworst 0 0 0\n"
unfolding overview_text season_text files_of entries_of entries_in first_of stopped_in add_all add_of with_not_judged no_tally tally_text level_line cell_of decimal decimal_in
cut_short = refl

-- two below and one above at 95, one inconclusive at 50
pub shown : tally_text (record {
  counts = 0 ∷ 0 ∷ 0 ∷ 2 ∷ 0 ∷ 1 ∷ (replicate 19 0 ++ (1 ∷ 0 ∷ []));
  books = 324;
  limits = 109;
  refused = 1;
  added = 5;
  worst = 2;
  worst_limit = 5;
  worst_book = 10;
})
    ≡ letters "level 99 0 0 0\nlevel 95 2 0 1\nlevel 90 0 0 0\nlevel 85 0 0 0\nlevel 80 0 0 0\nlevel 75 0 0 0\nlevel 70 0 0 0\nlevel 60 0 0 0\nlevel 50 0 1 0\nsums 324 109 1 5\nworst 2 5 10\n"
unfolding tally_text level_line cell_of decimal decimal_in
shown = refl

pub told : season_text (refused 28 0) ≡ letters "refused 28 0\n"
unfolding season_text decimal decimal_in
told = refl
