-- `overview::print_season` meets its contract: the line of the refusal, or the sheet. Assumes nothing.
use Rattle.overview.proofs.Short.{season_refused, season_added}
use Rattle.overview.proofs.print_season.Goals as goal

pub returns-in-Err : goal.returns-in-Err
returns-in-Err c = season_refused _ c.in-Err.is (c.refused_line.ensures.wrote, c.refused_line.ensures.why_len_bound)

pub returns-in-Ok : goal.returns-in-Ok
returns-in-Ok c = season_added _ c.in-Ok.is c.tally_text.ensures
