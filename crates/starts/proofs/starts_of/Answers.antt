-- Each turn is a law of the starts so far. Assumes nothing.
use native.Mathlib.Omega.{arith}
use Rattle.starts.proofs.Choosing.{choosing_none, choosing_refused, choosing_next, read_within, choosing_end}
use Rattle.starts.proofs.starts_of.Goals as goal

pub loop-h-init : goal.loop-h-init
loop-h-init c = choosing_none c.requires

pub returns-in_default : goal.returns-in_default
returns-in_default c = choosing_refused c.loop-h.invariant c.loop-h-test.true _ c.in_default.ensures.answer

pub overflow_add-read : goal.overflow_add-read
overflow_add-read c = omega (arith, read_within c.loop-h.invariant c.loop-h-test.true c.in-Ok.ensures.answer)

pub loop-h-preserved : goal.loop-h-preserved
loop-h-preserved c = choosing_next c.loop-h.invariant c.loop-h-test.true c.in-Ok.ensures.answer

pub returns : goal.returns
returns c = search choosing_end
