-- `pen::Pen::number` meets its contract, by recursion; the number falls. Assumes nothing.
use borrow.Author.Rules.{rules}
use native.Mathlib.Omega.{arith}
use Rattle.pen.proofs.Decimals.{decimal_small, decimal_more}
use Rattle.pen.proofs.Writing.{◌⨾◌, as_text}
use Rattle.pen.proofs.Pen.+number.Goals as goal

pub returns-then-n-lt10 : goal.returns-then-n-lt10
returns-then-n-lt10 t c = as_text (decimal_small _ (omega arith)) (search rules)

pub returns : goal.returns
returns t c = as_text (decimal_more _ (omega arith)) (search (rules, ◌⨾◌))
