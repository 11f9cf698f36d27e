-- `vectors::signed_numbers` meets its contract: the length is stated, not counted out. Assumes nothing.
use mathlib.Core.Path.{sym}
use lib.IntN.{ℤ, pos}
use lib.ListN.{length-replicate}
use Rattle.vectors.proofs.signed_numbers.Goals as goal

pub returns : goal.returns
returns c = sym (length-replicate {A = ℤ} 100000 (pos 0))
