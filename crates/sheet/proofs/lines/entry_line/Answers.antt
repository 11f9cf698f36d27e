-- `sheet::lines::entry_line` meets its contract: its parts, one after the other. Assumes nothing.
use Rattle.sheet.proofs.Written.{entry_written}
use Rattle.sheet.proofs.lines.entry_line.Goals as goal

pub returns : goal.returns
returns c = search entry_written
