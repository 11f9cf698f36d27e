-- Its figures are small, so it is short. Assumes nothing.
use borrow.Author.Rules.{rules}
use Rattle.handout.proofs.Short.{SmallSums, sums_short}
use Rattle.handout.proofs.lines.sums_line.Goals as goal

pub returns-clause-row_len_bound : goal.returns-clause-row_len_bound
returns-clause-row_len_bound c = let small : SmallSums c.args.row = search rules in search (rules, small, sums_short)
