-- The sums fit, and the verdict is the definition's. Assumes nothing.
use native.Mathlib.Omega.{arith}
use Rattle.judge.proofs.Answer.{concludes}
use Rattle.judge.proofs.conclude.Goals as goal

pub returns : goal.returns
returns c = concludes _ _ _ _ c.verdict_of.result (omega arith) c.verdict_of.ensures
