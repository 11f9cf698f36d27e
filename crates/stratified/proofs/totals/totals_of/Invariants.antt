-- The rows before the one at hand are added. Assumes nothing.
use Rattle.stratified.proofs.Totalling.{Totalling}
use Rattle.stratified.proofs.totals.totals_of.Given as goal

abbrev pub invariant-loop-row : goal.invariant-loop-row
invariant-loop-row l = Totalling l.fn.rows l.over l.under l.row-index
