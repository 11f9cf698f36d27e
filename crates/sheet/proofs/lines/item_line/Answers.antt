-- `sheet::lines::item_line` meets its contract: each state has its text. Assumes nothing.
use Rattle.sheet.proofs.Written.{state_none}
use Rattle.sheet.proofs.lines.item_line.Goals as goal

pub returns-in-NotDrawn : goal.returns-in-NotDrawn
returns-in-NotDrawn c = search state_none
