-- `divided::divide` meets its contract. The invariant: the lines from `at` on give what the text does. The measure is what is left of the length. Assumes nothing.
use Prim.Native.Nat.{◌-◌}
use lib.ListN.{length}
use Rattle.divided.proofs.Standing.{Stands}
use Rattle.divided.proofs.divide.Given as goal

abbrev pub invariant-loop-at : goal.invariant-loop-at
invariant-loop-at l = Stands l.text l.at l.line l.so_far

abbrev pub decreases-loop-at : goal.decreases-loop-at
decreases-loop-at l = length l.text - l.at
