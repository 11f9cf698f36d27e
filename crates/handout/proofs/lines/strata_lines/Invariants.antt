-- The lines of the strata before the one at hand are written. Assumes nothing.
use Rattle.handout.proofs.Loops.{Stratifying}
use Rattle.handout.proofs.lines.strata_lines.Given as goal

abbrev pub invariant-loop-h : goal.invariant-loop-h
invariant-loop-h l = Stratifying l.ledger l.counts l.rows l.chosen.starts l.chosen.words l.initial.page l.initial.next.at l.page l.next.at l.at l.h
