-- `sheet::lines::ledger_lines` meets its contract. The invariant: what is left to write is the text of the lines from `item` on. Assumes nothing.
use Rattle.sheet.proofs.Items.{Listing}
use Rattle.sheet.proofs.lines.ledger_lines.Given as goal

abbrev pub invariant-loop-item : goal.invariant-loop-item
invariant-loop-item l = Listing l.first.0 l.interval l.initial.next.0 l.ledger l.errors l.initial.page l.initial.at.at l.page l.at.at l.next.0 l.item
