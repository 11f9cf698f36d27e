-- The next book value is written. Assumes nothing.
use Rattle.strata.proofs.Booking.{booking_next}
use Rattle.strata.proofs.Strata.books.Goals as goal

pub loop-h-preserved : goal.loop-h-preserved
loop-h-preserved c = search booking_next
