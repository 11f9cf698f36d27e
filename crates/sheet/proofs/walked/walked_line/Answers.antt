-- `sheet::walked::walked_line` meets its contract: the size and the sign are those of the error. Assumes nothing.
use Rattle.sheet.proofs.ByMarks.{size_fits, marked_written}
use Rattle.sheet.proofs.walked.walked_line.Goals as goal

pub marked_line-line-requires : goal.marked_line-line-requires
marked_line-line-requires c = search size_fits

pub returns : goal.returns
returns c = search marked_written
