-- `pen::Pen::signed` meets its contract: the size of the number, with its sign. Assumes nothing.
use borrow.Author.Rules.{rules}
use Rattle.pen.proofs.Writing.{signed_laid}
use Rattle.pen.proofs.Pen.signed.Goals as goal

pub returns : goal.returns
returns c = search (rules, signed_laid)
