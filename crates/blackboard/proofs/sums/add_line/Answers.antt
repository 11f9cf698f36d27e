-- The refusals by the size, and then each kind by itself. Assumes nothing.
use mathlib.Core.Logic.{inr}
use Rattle.std.proofs.Common.{arith, rules}
use Rattle.blackboard.proofs.OneLine.{line_above, line_unmarked, line_empty, over_within, under_within, line_marked}
use Rattle.blackboard.proofs.sums.add_line.Goals as goal

pub returns-then-size-value : goal.returns-then-size-value
returns-then-size-value c = search line_above

pub returns-then-size-gt0 : goal.returns-then-size-gt0
returns-then-size-gt0 c = search line_unmarked

pub returns-then-mark-eq0 : goal.returns-then-mark-eq0
returns-then-mark-eq0 c = search line_empty

pub with_line-requires : goal.with_line-requires
with_line-requires c = (search rules, search over_within)

pub with_line-requires-2 : goal.with_line-requires-2
with_line-requires-2 c = (search rules, search under_within)

pub returns : goal.returns
returns c = line_marked _ _ _ _ _ _ c.ranges.error _ c.size_of-size.ensures (omega arith) (inr (omega arith)) c.overstated_of-overstated.ensures c.understated_of-understated.ensures c.with_line.ensures c.with_line-2.ensures
