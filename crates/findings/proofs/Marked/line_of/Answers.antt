-- Each refusal that is told by a law in its place, or the line; its mark is read by the own bits. Assumes nothing.
use native.Mathlib.Omega.{arith}
use Rattle.findings.proofs.Rules.{mark_read, line_not_there, line_not_drawn, line_passes}
use Rattle.findings.proofs.Marked.line_of.Goals as goal

pub returns-then-line-self : goal.returns-then-line-self
returns-then-line-self c = line_not_there _ _ _ _ _ (omega arith)

pub returns-then-misplaced : goal.returns-then-misplaced
returns-then-misplaced c = line_not_drawn _ _ _ _ _ (omega arith) (search) c.size_of-size.ensures (omega arith) (mark_read _ _ _ _ c.own.ensures c.misplaced.ensures) (search)

pub returns : goal.returns
returns c = line_passes _ _ _ _ _ (omega arith) (search) c.size_of-size.ensures (omega arith) (mark_read _ _ _ _ c.own.ensures c.misplaced.ensures) (search)
