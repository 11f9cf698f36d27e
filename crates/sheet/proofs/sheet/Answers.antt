-- `sheet::sheet` meets its contract: the page has room for every text. Assumes nothing.
use native.Mathlib.Omega.{arith}
use Rattle.pen.proofs.Writing.{printed}
use Rattle.sheet.proofs.sheet.Goals as goal

pub returns : goal.returns
returns c = printed _ _ _ _ (omega (arith, c.print_input.ensures.input_len_bound)) c.print_input.ensures.wrote
