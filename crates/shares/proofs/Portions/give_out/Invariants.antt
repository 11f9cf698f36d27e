-- Giving out what is left from here gives what giving out the whole does. Assumes nothing.
use Prim.Native.Nat.{◌-◌}
use Rattle.shares.proofs.Loops.{Handing}
use Rattle.shares.proofs.Portions.give_out.Given as goal

abbrev pub invariant-loop-given : goal.invariant-loop-given
invariant-loop-given l = Handing l.fn.self.draws l.fn.self.remainders l.fn.self.leftover l.draws l.remainders (l.fn.self.leftover - l._given)
