-- The book values of the strata before the one at hand are written. Assumes nothing.
use Rattle.strata.proofs.Booking.{Booking}
use Rattle.strata.proofs.Strata.books.Given as goal

abbrev pub invariant-loop-h : goal.invariant-loop-h
invariant-loop-h l = Booking l.self.ledger.now l.self.counts.now l.books l.rest l.h
