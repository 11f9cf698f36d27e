-- `pen::Pen::line` meets its contract: the word, the numbers, the end of the line. Assumes nothing.
use Rattle.pen.proofs.Writing.{line_laid}
use borrow.Author.Rules.{rules}
use Rattle.pen.proofs.Pen.line.Goals as goal

pub returns : goal.returns
returns c = search (rules, line_laid)
