-- Its parts, one after the other. Assumes nothing.
use borrow.Author.Rules.{rules}
use Rattle.handout.proofs.Written.{all_written}
use Rattle.handout.proofs.Short.{all_short}
use Rattle.handout.proofs.lines.all_line.Goals as goal

pub returns : goal.returns
returns c = record { wrote = search all_written; sums_len_bound = search (rules, all_short) }
