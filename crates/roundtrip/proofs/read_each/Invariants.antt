-- `roundtrip::read_each` meets its contract. The invariant: the errors before the one at hand were read. Assumes nothing.
use Rattle.roundtrip.proofs.Trips.{ReadTo}
use Rattle.roundtrip.proofs.read_each.Given as goal

abbrev pub invariant-loop-error : goal.invariant-loop-error
invariant-loop-error l = ReadTo l.errors l.error-index
