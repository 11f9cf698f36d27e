-- `writer::lists::put_error` meets its contract: nothing, or a record of its kind and size. Assumes nothing.
use mathlib.Core.Bool.{true, false}
use native.Mathlib.Omega.{arith}
use borrow.Author.Rules.{rules}
use Rattle.writer.proofs.Rows.{none_laid, some_room, kind_laid}
use Rattle.writer.proofs.lists.put_error.Goals.{then-error-lt0, else-error-lt0}
use Rattle.writer.proofs.lists.put_error.Goals as goal

pub returns-then-size-eq0 : goal.returns-then-size-eq0
returns-then-size-eq0 c = none_laid _ _ c.ranges.error c.size_of-size.ensures _ _ (omega arith)

pub put_two-requires : goal.put_two-requires
put_two-requires c = some_room c.args.line _ c.ranges.error c.size_of-size.ensures _ _ (λ h. omega arith) (search rules)

pub returns : goal.returns
returns c = elim c.if-error-lt0.branch [ then-error-lt0 w ↦ kind_laid c.args.line _ c.ranges.error c.size_of-size.ensures true (search rules) (λ h. omega arith) w.kind-is c.put_two.ensures | else-error-lt0 w ↦ kind_laid c.args.line _ c.ranges.error c.size_of-size.ensures false (search rules) (λ h. omega arith) w.kind-is c.put_two.ensures ]
