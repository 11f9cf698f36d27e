-- `reader::storing::store` meets its contract. The invariant: the pass stands where the content read so far ends, and the buffers hold
-- that content. The measure is what is left of the file. Assumes nothing.
use Prim.Native.Nat.{◌-◌}
use lib.ListN.{length}
use Rattle.reader.proofs.Second.{Storing}
use Rattle.reader.proofs.storing.store.Given as goal

abbrev pub invariant-loop-next : goal.invariant-loop-next
invariant-loop-next l = Storing l.file l.initial.words l.initial.values l.initial.errors l.at l.tally l.words l.values l.errors

abbrev pub decreases-loop-next : goal.decreases-loop-next
decreases-loop-next l = length l.file - l.at
