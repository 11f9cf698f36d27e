-- `pen::Pen::fields` meets its contract. The invariant: the numbers that come are left to write. Assumes nothing.
use lib.ListN.{drop}
use Rattle.pen.specs.Text.{fields}
use Rattle.pen.proofs.Writing.{Left}
use Rattle.pen.proofs.Pen.fields.Given as goal

abbrev pub invariant-loop-n : goal.invariant-loop-n
invariant-loop-n l = Left l.initial.out l.initial.pen.at (fields l.numbers) l.out l.pen.at (fields (drop l.n-index l.numbers))
