-- `vectors::bytes` meets its contract: the length is stated, not counted out. Assumes nothing.
use mathlib.Core.Path.{sym}
use Prim.Native.Nat.{ℕ}
use lib.ListN.{length-replicate}
use Rattle.vectors.proofs.bytes.Goals as goal

pub returns : goal.returns
returns c = sym (length-replicate {A = ℕ} 100000 0)
