-- `pen::Pen::field` meets its contract: a space, then a number. Assumes nothing.
use borrow.Author.Rules.{rules}
use Rattle.pen.proofs.Writing.{after_space}
use Rattle.pen.proofs.Pen.field.Goals as goal

pub returns : goal.returns
returns c = search (rules, after_space)
