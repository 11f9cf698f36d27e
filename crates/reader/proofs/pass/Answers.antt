-- `reader::pass` meets its contract: nothing where there is no P, and else what the records after it give. Assumes nothing.
use borrow.Author.Rules.{rules}
use Rattle.reader.proofs.Passing.{too_short, not_plan}
use Rattle.reader.proofs.pass.Goals.{then-file-lt18-via-then-file-lt18, then-file-lt18-via-else-file-lt18+then-file-ne80}
use Rattle.reader.proofs.pass.Goals as goal

pub returns-then-file-lt18 : goal.returns-then-file-lt18
returns-then-file-lt18 c = elim c.then-file-lt18.branch [ then-file-lt18-via-then-file-lt18 w ↦ search (rules, too_short) | then-file-lt18-via-else-file-lt18+then-file-ne80 w ↦ search (rules, not_plan) ]
