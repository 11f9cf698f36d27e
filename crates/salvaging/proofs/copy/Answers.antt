-- `salvaging::copy` meets its contract. The invariant: the bytes from `i` on are left to lay. Assumes nothing.
use native.Mathlib.Omega.{arith}
use Prim.Native.Nat.{◌+◌}
use mathlib.Core.List.{[], ◌∷◌}
use lib.ListN.{take, drop, get_or}
use Rattle.writer.proofs.Laying.{left_start, left_on, left_done, laid_byte, laid_none}
use Rattle.salvaging.proofs.Answers.{byte_more, byte_none}
use Rattle.salvaging.proofs.copy.Goals as goal

pub loop-i-init : goal.loop-i-init
loop-i-init c = (omega arith, left_start _ _ _)

pub bounds-file-i : goal.bounds-file-i
bounds-file-i c = omega arith

pub bounds-out-i : goal.bounds-out-i
bounds-out-i c = omega (arith, c.loop-i.invariant.1.long)

pub overflow_add-i : goal.overflow_add-i
overflow_add-i c = omega arith

pub loop-i-smaller : goal.loop-i-smaller
loop-i-smaller c = omega arith

pub loop-i-preserved : goal.loop-i-preserved
loop-i-preserved c = let a = c.args in
    let l = c.loop-i in (
      omega arith,
      left_on l.invariant.1 (get_or a.file.now l.i 0 ∷ []) (drop (l.i + 1) (take a.count a.file.now))
          (byte_more a.file.now a.count l.i c.requires.0 (omega arith)) (laid_byte (laid_none _ _)),
    )

pub shape_of-out : goal.shape_of-out
shape_of-out c = c.loop-i.invariant.1.long

pub returns : goal.returns
returns c = left_done c.loop-i.invariant.1 (byte_none c.args.file.now c.args.count c.loop-i.i c.requires.0 (omega arith))
