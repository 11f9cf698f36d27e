-- `pen::Pen::sized_field` meets its contract: a space, then a size with its sign. Assumes nothing.
use borrow.Author.Rules.{rules}
use Rattle.pen.proofs.Writing.{after_space}
use Rattle.pen.proofs.Pen.sized_field.Goals as goal

pub returns : goal.returns
returns c = search (rules, after_space)
