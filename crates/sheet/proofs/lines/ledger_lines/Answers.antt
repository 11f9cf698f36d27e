-- `sheet::lines::ledger_lines` meets its contract. The invariant: what is left to write is the text of the lines from `item` on. The measure
-- is what is left of the length. Assumes nothing.
use borrow.Author.Rules.{rules}
use Rattle.sheet.proofs.Items.{listing_none, listing_more, listing_all, line_within, number_fits}
use Rattle.sheet.proofs.lines.ledger_lines.Goals as goal

pub loop-item-init : goal.loop-item-init
loop-item-init c = search listing_none

pub overflow_add-number : goal.overflow_add-number
overflow_add-number c = search number_fits

pub ledger_line-at-requires : goal.ledger_line-at-requires
ledger_line-at-requires c = search (rules, line_within)

pub loop-item-preserved : goal.loop-item-preserved
loop-item-preserved c = search listing_more

pub returns : goal.returns
returns c = search listing_all
