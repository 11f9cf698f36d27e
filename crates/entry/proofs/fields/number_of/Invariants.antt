-- `entry::fields::number_of` meets its contract. The invariant: the digits so far write the value. Assumes nothing.
use Rattle.entry.proofs.Digits.{Counted}
use Rattle.entry.proofs.fields.number_of.Given as goal

abbrev pub invariant-loop-byte : goal.invariant-loop-byte
invariant-loop-byte l = Counted l.field l.value l.byte-index
