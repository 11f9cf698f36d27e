-- A cell is a place of the counts. Assumes nothing.
use Rattle.std.proofs.Common.{rules}
use Rattle.season.proofs.Cells.{cell_fits, read_there}
use Rattle.season.proofs.Tally.count.Goals as goal

ruleset fits = (rules, cell_fits)

pub bounds-self-cell : goal.bounds-self-cell
bounds-self-cell c = search fits

pub offset_bounds-self-cell : goal.offset_bounds-self-cell
offset_bounds-self-cell c = search fits

pub returns : goal.returns
returns c = search read_there
