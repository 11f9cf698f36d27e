-- Each answer is a law of `Steps`, at the values of the code. Assumes nothing.
use mathlib.Core.Path.{◌∙◌}
use native.Mathlib.Omega.{arith}
use borrow.Author.Tests.{eq-eqb, le-ltb}
use Rattle.ratio.proofs.Steps.{whole_decides, left_none, right_none, turned}
use Rattle.ratio.proofs.+share_exceeds.Goals as goal

pub returns-then-left-right : goal.returns-then-left-right
returns-then-left-right t c = whole_decides _ _ _ _ c.requires c.if-left-right.true

pub returns-then-q-eq0 : goal.returns-then-q-eq0
returns-then-q-eq0 t c = eq-eqb _ _ c.if-q-eq0.true ∙ right_none _ _ _ _ c.requires c.if-left-right.false (omega arith) c.if-q-eq0.true

pub returns-else-q-eq0 : goal.returns-else-q-eq0
returns-else-q-eq0 t c = c.share_exceeds.ensures ∙ turned _ _ _ _ c.requires c.if-left-right.false

pub returns-else-p-gt0 : goal.returns-else-p-gt0
returns-else-p-gt0 t c = le-ltb _ _ c.if-p-gt0.false ∙ left_none _ _ _ _ c.requires c.if-left-right.false (omega arith)
