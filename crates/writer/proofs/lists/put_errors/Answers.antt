-- `writer::lists::put_errors` meets its contract: one error more is laid. Assumes nothing.
use borrow.Author.Rules.{rules}
use Rattle.writer.proofs.Rows.{errors_on}
use Rattle.writer.proofs.lists.put_errors.Goals as goal

pub loop-line-preserved : goal.loop-line-preserved
loop-line-preserved c = search (rules, errors_on)
