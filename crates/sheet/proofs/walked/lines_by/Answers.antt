-- `sheet::walked::lines_by` meets its contract: either method writes the same text. Assumes nothing.
use Rattle.sheet.proofs.ByMarks.{shown_walkable}
use Rattle.sheet.proofs.walked.lines_by.Goals as goal

pub walked_lines-requires : goal.walked_lines-requires
walked_lines-requires c = search shown_walkable
