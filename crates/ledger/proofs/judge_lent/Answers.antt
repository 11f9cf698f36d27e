-- The total of the lines, which is not 0. Assumes nothing.
use native.Mathlib.Omega.{arith}
use Rattle.ledger.proofs.Lines.{total_is}
use Rattle.ledger.proofs.judge_lent.Goals as goal

pub returns : goal.returns
returns c = total_is _ _ (omega arith) (search) c.in_ok-total.ensures (λ z. omega arith)
