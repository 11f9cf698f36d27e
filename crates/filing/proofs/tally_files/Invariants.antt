-- `filing::tally_files` meets its contract. The invariant: what is still to be added to the tally gives the tally of all files. The measure is what
-- is left of the row. Assumes nothing.
use Prim.Native.Nat.{◌-◌}
use lib.ListN.{length}
use Rattle.filing.proofs.Rows.{Going}
use Rattle.filing.proofs.tally_files.Given as goal

abbrev pub invariant-loop-at : goal.invariant-loop-at
invariant-loop-at l = Going l.files l.at l.tally

abbrev pub decreases-loop-at : goal.decreases-loop-at
decreases-loop-at l = length l.files - l.at
