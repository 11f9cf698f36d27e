-- `typed::read_text` meets its contract: the length that it answers is the one that was read. Assumes nothing.
use native.Mathlib.Omega.{arith}
use Rattle.typed.proofs.read_text.Goals as goal

pub returns : goal.returns
returns g c = omega (arith, c.in_ok-length.ensures)
