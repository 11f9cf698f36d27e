-- `overview::lines::tally_text` meets its contract: the lines, one after the other. Assumes nothing.
use Rattle.overview.proofs.Short.{tally_written}
use Rattle.overview.proofs.lines.tally_text.Goals as goal

pub returns : goal.returns
returns c = search tally_written
