-- `reader::pass_records` meets its contract. The invariant: the content read so far ends where the pass stands, and has its counts.
-- The measure is what is left of the file. Assumes nothing.
use Prim.Native.Nat.{◌-◌}
use lib.ListN.{length}
use Rattle.reader.proofs.Passing.{Passing}
use Rattle.reader.proofs.pass_records.Given as goal

abbrev pub invariant-loop-next : goal.invariant-loop-next
invariant-loop-next l = Passing l.file l.at l.tally

abbrev pub decreases-loop-next : goal.decreases-loop-next
decreases-loop-next l = length l.file - l.at
