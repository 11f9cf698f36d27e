-- `salvaging::copy` meets its contract. The invariant: the bytes from `i` on are left to lay. Assumes nothing.
use Prim.Native.Nat.{◌-◌, ◌≤◌}
use lib.ListN.{take, drop}
use Rattle.writer.proofs.Laying.{Left}
use Rattle.salvaging.proofs.copy.Given as goal

abbrev pub invariant-loop-i : goal.invariant-loop-i
invariant-loop-i l = (l.i ≤ l.count) × Left l.initial.out 0 (take l.count l.file) l.out l.i (drop l.i (take l.count l.file))

abbrev pub decreases-loop-i : goal.decreases-loop-i
decreases-loop-i l = l.count - l.i
