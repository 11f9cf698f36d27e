-- `sheet::lines::net_word` meets its contract: its parts, one after the other. Assumes nothing.
use Rattle.sheet.proofs.Written.{net_written}
use Rattle.sheet.proofs.lines.net_word.Goals as goal

pub returns : goal.returns
returns c = search net_written
