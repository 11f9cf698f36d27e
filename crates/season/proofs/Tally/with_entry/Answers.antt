-- The cell of a level and a verdict is a place of the counts. One that was refused is counted apart. Assumes nothing.
use Rattle.std.proofs.Common.{arith}
use Rattle.season.proofs.Answers.{not_judged_in}
use Rattle.season.proofs.Cells.{cell_fits}
use Rattle.season.proofs.Tally.with_entry.Goals as goal

pub settled-requires : goal.settled-requires
settled-requires c = (cell_fits _ _ _ c.cell.ensures, omega arith, omega arith)

pub returns-in_default : goal.returns-in_default
returns-in_default c = not_judged_in c.args.self (omega arith) (omega arith) c.in_default.is
