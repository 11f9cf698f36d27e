-- The sums of the strata before the one at hand are written. Assumes nothing.
use Rattle.handout.proofs.Loops.{Summing}
use Rattle.handout.proofs.lines.sums_lines.Given as goal

abbrev pub invariant-loop-h : goal.invariant-loop-h
invariant-loop-h l = Summing l.strata l.rows l.initial.page l.initial.next.at l.page l.next.at l.h
