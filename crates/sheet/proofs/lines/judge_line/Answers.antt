-- `sheet::lines::judge_line` meets its contract: its parts, one after the other. Assumes nothing.
use Rattle.sheet.proofs.Written.{judge_written}
use Rattle.sheet.proofs.lines.judge_line.Goals as goal

pub returns : goal.returns
returns c = search judge_written
