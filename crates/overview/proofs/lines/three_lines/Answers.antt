-- `overview::lines::three_lines` meets its contract: the lines, one after the other. Assumes nothing.
use Rattle.overview.proofs.Short.{three_written}
use Rattle.overview.proofs.lines.three_lines.Goals as goal

pub returns : goal.returns
returns c = search three_written
