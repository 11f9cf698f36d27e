-- It is short. Assumes nothing.
use borrow.Author.Rules.{rules}
use Rattle.handout.proofs.Short.{plan_short}
use Rattle.handout.proofs.lines.plan_line.Goals as goal

pub returns-clause-total_len_bound : goal.returns-clause-total_len_bound
returns-clause-total_len_bound c = search (rules, plan_short)
