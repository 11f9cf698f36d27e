-- `notation::check` meets its contract. The invariant: the lines from `at` on give what the text does. The measure is what is left of the length.
-- Assumes nothing.
use borrow.Author.Rules.{rules}
use Rattle.notation.proofs.Passing.{starts, found_fault, less, onward, finished}
use Rattle.notation.proofs.check.Goals as goal

pub loop-at-init : goal.loop-at-init
loop-at-init c = search (rules, starts)

pub returns-in-Err : goal.returns-in-Err
returns-in-Err c = search (rules, found_fault)

pub loop-at-smaller : goal.loop-at-smaller
loop-at-smaller c = search (rules, less)

pub loop-at-preserved : goal.loop-at-preserved
loop-at-preserved c = search (rules, onward)

pub returns : goal.returns
returns c = search (rules, finished)
