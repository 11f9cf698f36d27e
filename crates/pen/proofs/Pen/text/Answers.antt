-- `pen::Pen::text` meets its contract: a turn of the loop writes the byte that comes. Assumes nothing.
use borrow.Author.Rules.{rules}
use Rattle.pen.proofs.Writing.{byte_laid}
use Rattle.pen.proofs.Pen.text.Goals as goal

pub loop-b-preserved : goal.loop-b-preserved
loop-b-preserved c = search (rules, byte_laid)
