-- `reader::pass_records` meets its contract. The invariant: the content read so far ends where the pass stands, and has its counts.
-- The measure is what is left of the file. Assumes nothing.
use Prim.Native.Nat.{◌+◌}
use native.Mathlib.Omega.{arith}
use Rattle.reader.proofs.Passing.{Passing, onward, less, at_end, at_fault}
use Rattle.reader.proofs.pass_records.Goals as goal

pub overflow_add-at : goal.overflow_add-at
overflow_add-at c =
    let p : Passing c.args.file.now (c.loop-next.at + c.in-Next.size) c.in-Next.next = onward c.loop-next.invariant.stands c.record_at.ensures c.judge-judged.ensures c.in-Next.is in
    omega (arith, p.stands.place.within)

pub loop-next-smaller : goal.loop-next-smaller
loop-next-smaller c = search less

pub returns-in-Last : goal.returns-in-Last
returns-in-Last c = search at_end

pub returns-in_default-matches : goal.returns-in_default-matches
returns-in_default-matches c = search at_fault
