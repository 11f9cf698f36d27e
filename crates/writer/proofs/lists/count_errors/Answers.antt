-- One turn of the loop, by the test of the size. Assumes nothing.
use borrow.Author.Rules.{rules}
use Rattle.writer.proofs.Rows.{count_one, count_none, count_done}
use Rattle.writer.proofs.lists.count_errors.Goals as goal
use Rattle.writer.proofs.lists.count_errors.Goals.{then-size_of-ne0, else-size_of-ne0}

pub loop-error-preserved : goal.loop-error-preserved
loop-error-preserved c = elim c.if-size_of-ne0.branch [ then-size_of-ne0 w ↦ rw w.count-is (search (rules, count_one)) | else-size_of-ne0 w ↦ rw w.count-is (search (rules, count_none)) ]

pub returns : goal.returns
returns c = search (rules, count_done)
