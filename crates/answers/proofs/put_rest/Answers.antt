-- `answers::put_rest` meets its contract: a judgement has its limits and its verdict after the net. Assumes nothing.
use borrow.Author.Rules.{rules}
use Rattle.pen.proofs.Writing.{◌⨾◌}
use Rattle.answers.proofs.Texts.{judged_put}
use Rattle.answers.proofs.put_rest.Goals as goal

pub returns-in-Judged : goal.returns-in-Judged
returns-in-Judged c = search (rules, judged_put, ◌⨾◌)
