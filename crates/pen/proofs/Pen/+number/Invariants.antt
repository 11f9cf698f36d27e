-- The measure of `pen::Pen::number` is the number. Assumes nothing.
use Rattle.pen.proofs.Pen.+number.Given as goal

abbrev pub decreases-number : goal.decreases-number
decreases-number l = l.n
