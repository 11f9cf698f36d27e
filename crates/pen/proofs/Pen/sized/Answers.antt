-- `pen::Pen::sized` meets its contract: a minus and the size, or the size. Assumes nothing.
use borrow.Author.Rules.{rules}
use Rattle.pen.proofs.Writing.{sized_under, sized_over}
use Rattle.pen.proofs.Pen.sized.Goals as goal

pub returns-then-under : goal.returns-then-under
returns-then-under c = search (rules, sized_under)

pub returns : goal.returns
returns c = search (rules, sized_over)
