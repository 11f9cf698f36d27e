-- `writer::lists::add_up` meets its contract: past 64 bits there is none. Assumes nothing.
use borrow.Author.Rules.{rules}
use native.Mathlib.Omega.{arith}
use mathlib.Core.Path.{◌∙◌}
use Rattle.writer.proofs.Rows.{sum_past, sum_done}
use Rattle.writer.proofs.lists.add_up.Goals as goal

pub returns-in_err-total : goal.returns-in_err-total
returns-in_err-total c = c.from_residual.ensures ∙ sum_past c.loop-value.invariant (omega arith) (omega (arith, c.in_err-total.ensures))

pub returns : goal.returns
returns c = search (rules, sum_done)
