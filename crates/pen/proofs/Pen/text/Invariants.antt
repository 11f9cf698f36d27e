-- `pen::Pen::text` meets its contract. The invariant: the bytes that come are left to write. Assumes nothing.
use lib.ListN.{drop}
use Rattle.pen.proofs.Writing.{Left}
use Rattle.pen.proofs.Pen.text.Given as goal

abbrev pub invariant-loop-b : goal.invariant-loop-b
invariant-loop-b l = Left l.initial.out l.initial.pen.at l.bytes l.out l.pen.at (drop l.b-index l.bytes)
