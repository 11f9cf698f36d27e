-- `pen::Pen::fields` meets its contract: a turn of the loop writes the number that comes. Assumes nothing.
use borrow.Author.Rules.{rules}
use Rattle.pen.proofs.Writing.{field_laid}
use Rattle.pen.proofs.Pen.fields.Goals as goal

pub loop-n-preserved : goal.loop-n-preserved
loop-n-preserved c = search (rules, field_laid)
