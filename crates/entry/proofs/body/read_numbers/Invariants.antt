-- `entry::body::read_numbers` meets its contract. The invariant: as many numbers as were not read are still to come. Assumes nothing.
use Rattle.entry.proofs.Lines.{ToCome}
use Rattle.entry.proofs.body.read_numbers.Given as goal

abbrev pub invariant-loop-read : goal.invariant-loop-read
invariant-loop-read l = ToCome l.line l.from l.count l.at l.read l.numbers
