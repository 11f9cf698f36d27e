-- `sheet::lines::project_line` meets its contract: its parts, one after the other. Assumes nothing.
use Rattle.sheet.proofs.Written.{project_written}
use Rattle.sheet.proofs.lines.project_line.Goals as goal

pub returns : goal.returns
returns c = search project_written
