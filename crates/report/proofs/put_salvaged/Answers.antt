-- `report::put_salvaged` meets its contract: four words with their figures, and the old Z last. Assumes nothing.
use native.Mathlib.Omega.{arith}
use Rattle.report.proofs.Writing.{salvaged_laid}
use Rattle.report.proofs.put_salvaged.Goals as goal

pub returns : goal.returns
returns c =
    salvaged_laid _ (omega arith) (omega arith) (omega arith) (omega arith) c.put_named-kept.ensures c.put_named-dropped.ensures c.put_named-lines.ensures c.put_named-sum.ensures
    c.put_old.ensures
