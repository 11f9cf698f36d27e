-- `notation::fill` meets its contract. The invariant: the buffers hold the content of the lines before `at`. The measure is what is left of the
-- length. Assumes nothing.
use Prim.Native.Nat.{◌-◌}
use lib.ListN.{length}
use Rattle.notation.proofs.Filling.{Filling}
use Rattle.notation.proofs.fill.Given as goal

abbrev pub invariant-loop-at : goal.invariant-loop-at
invariant-loop-at l = Filling l.by l.text l.at l.line l.state l.initial.words l.initial.values l.initial.errors l.words l.values l.errors

abbrev pub decreases-loop-at : goal.decreases-loop-at
decreases-loop-at l = length l.text - l.at
