-- `sheet::lines::closing_text` meets its contract: the lines, one after the other. Assumes nothing.
use Rattle.sheet.proofs.Written.{closing_written}
use Rattle.sheet.proofs.lines.closing_text.Goals as goal

pub returns : goal.returns
returns c = search closing_written
