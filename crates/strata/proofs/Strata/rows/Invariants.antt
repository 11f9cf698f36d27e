-- The rows of the strata before the one at hand are written. Assumes nothing.
use Rattle.strata.proofs.Booking.{Rowing}
use Rattle.strata.proofs.Strata.rows.Given as goal

abbrev pub invariant-loop-h : goal.invariant-loop-h
invariant-loop-h l = Rowing l.self.ledger.now l.self.counts.now l.books l.draws l.rows l.rest l.h
