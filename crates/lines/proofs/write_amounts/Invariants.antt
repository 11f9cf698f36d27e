-- The amounts so far, with what the lines to come project, are what all lines project. Assumes nothing.
use Rattle.lines.proofs.Writing.{Written}
use Rattle.lines.proofs.write_amounts.Given as goal

abbrev pub invariant-loop-item : goal.invariant-loop-item
invariant-loop-item l = Written l.entered.interval l.initial.next.0 l.entered.ledger.now l.entered.errors.now l.next.0 l.item l.amounts
