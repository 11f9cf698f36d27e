-- `reader::storing::store` meets its contract. The invariant: the pass stands where the content read so far ends, and the buffers hold
-- that content. The measure is what is left of the file. Assumes nothing.
use borrow.Author.Rules.{rules}
use native.Mathlib.Omega.{arith}
use Rattle.reader.proofs.Second.{ready, goes_on_lem, closer, arrives}
use Rattle.reader.proofs.storing.store.Goals as goal

pub step-requires : goal.step-requires
step-requires c = search (rules, ready)

pub overflow_add-at : goal.overflow_add-at
overflow_add-at c = omega (arith, (goes_on_lem c.loop-next.invariant c.step.ensures c.in-Next.is).stands.place.within)

pub loop-next-smaller : goal.loop-next-smaller
loop-next-smaller c = search closer

pub returns : goal.returns
returns c = search arrives
