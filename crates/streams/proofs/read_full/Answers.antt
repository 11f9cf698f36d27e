-- `streams::read_full` meets its contract: the loop ends with what was read in the room. Assumes nothing.
use Rattle.std.proofs.Common.{arith}
use Rattle.streams.proofs.read_full.Goals as goal

pub returns-after-loop : goal.returns-after-loop
returns-after-loop g c = omega (arith, c.loop.invariant)

pub returns-then-done-room : goal.returns-then-done-room
returns-then-done-room g c = omega (arith, c.loop.invariant)
