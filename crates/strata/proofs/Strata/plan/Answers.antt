-- 23, or the rows at the shares. Assumes nothing.
use native.Mathlib.Omega.{arith}
use Rattle.strata.proofs.Planning.{few_promised, shareable, sharing, rows_promised}
use Rattle.strata.proofs.Strata.plan.Goals as goal

pub returns-then-n-with_value : goal.returns-then-n-with_value
returns-then-n-with_value c = few_promised _ _ _ c.books-books.ensures (λ none. omega arith) c.with_value.ensures (omega arith)

pub share_out-draws-requires : goal.share_out-draws-requires
share_out-draws-requires c = search shareable

pub rows-requires : goal.rows-requires
rows-requires c = search sharing

pub returns : goal.returns
returns c = search rows_promised
