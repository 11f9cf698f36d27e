-- `writer::write` meets its promise: a sum past 64 bits has no legal file. Assumes nothing.
use native.Mathlib.Omega.{arith}
use Rattle.writer.proofs.Answers.{past}
use Rattle.writer.proofs.write.Goals as goal

pub returns-in_default : goal.returns-in_default
returns-in_default c = past _ _ _ _ _ (omega arith) (omega arith) _ c.add_up.ensures c.in_default.not-Some (omega arith)
