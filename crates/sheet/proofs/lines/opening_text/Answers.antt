-- `sheet::lines::opening_text` meets its contract: the lines, one after the other. Assumes nothing.
use Rattle.sheet.proofs.Written.{opening_written}
use Rattle.sheet.proofs.lines.opening_text.Goals as goal

pub returns : goal.returns
returns c = search opening_written
