-- Each turn is a law of the rows so far. Assumes nothing.
use Rattle.strata.proofs.Booking.{rowing_none, rowing_book, rowing_next}
use Rattle.strata.proofs.Strata.rows.Goals as goal

pub loop-h-init : goal.loop-h-init
loop-h-init c = rowing_none c.requires

pub invariant_of-book : goal.invariant_of-book
invariant_of-book c = record { totalled = search rowing_book }

pub loop-h-preserved : goal.loop-h-preserved
loop-h-preserved c = search rowing_next
