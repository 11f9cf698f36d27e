-- `overview::lines::levels_text` meets its contract: the lines, one after the other. Assumes nothing.
use Rattle.overview.proofs.Short.{levels_written}
use Rattle.overview.proofs.lines.levels_text.Goals as goal

pub returns : goal.returns
returns c = search levels_written
