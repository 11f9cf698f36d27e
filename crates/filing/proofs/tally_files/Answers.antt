-- `filing::tally_files` meets its contract. The invariant: what is still to be added to the tally gives the tally of all files. The measure is what
-- is left of the row. Assumes nothing.
use native.Mathlib.Omega.{arith}
use Rattle.filing.proofs.Rows.{begins, ended, next_fits, next_later, goes_on_lem, stops}
use Rattle.filing.proofs.tally_files.Goals as goal

pub loop-at-init : goal.loop-at-init
loop-at-init c = search begins

pub overflow_add-at : goal.overflow_add-at
overflow_add-at c = omega (arith, next_fits c.loop-at.invariant c.loop-at-test.true c.first_file-entry.ensures)

pub loop-at-smaller : goal.loop-at-smaller
loop-at-smaller c = search next_later

pub loop-at-preserved : goal.loop-at-preserved
loop-at-preserved c = goes_on_lem c.loop-at.invariant c.loop-at-test.true c.first_file-entry.ensures c.add-handed.ensures c.in-Ok.is

pub returns-in-Err : goal.returns-in-Err
returns-in-Err c = stops c.loop-at.invariant c.loop-at-test.true c.first_file-entry.ensures c.add-handed.ensures c.in-Err.is (search)

pub returns : goal.returns
returns c = search ended
