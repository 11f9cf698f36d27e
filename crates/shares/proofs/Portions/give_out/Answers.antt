-- One draw more is given. Assumes nothing.
use mathlib.Core.Path.{◌≡◌}
use Prim.Native.Nat.{◌+◌, ◌-◌}
use native.Mathlib.Omega.{arith}
use Rattle.shares.proofs.Loops.{handing_next}
use Rattle.shares.proofs.Portions.give_out.Goals as goal

pub loop-given-preserved : goal.loop-given-preserved
loop-given-preserved c =
    let e : c.args.self.leftover - c.loop-given._given - 1 ≡ c.args.self.leftover - (c.loop-given._given + 1) = omega arith in
    rw (← e) (handing_next c.loop-given.invariant c.largest_at-stratum.ensures (omega arith))
