-- Its figures are small, so it is short. Assumes nothing.
use borrow.Author.Rules.{rules}
use Rattle.handout.proofs.Written.{stratum_written}
use Rattle.handout.proofs.Short.{SmallRow, stratum_short}
use Rattle.handout.proofs.lines.stratum_line.Goals as goal

pub returns : goal.returns
returns c = let small : SmallRow c.args.row = search rules in record { wrote = search stratum_written; words_len_bound = search (rules, small, stratum_short) }
