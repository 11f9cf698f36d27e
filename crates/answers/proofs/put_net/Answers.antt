-- `answers::put_net` meets its contract: a space, then a signed number. Assumes nothing.
use borrow.Author.Rules.{rules}
use Rattle.answers.proofs.Texts.{net_laid}
use Rattle.answers.proofs.put_net.Goals as goal

pub returns : goal.returns
returns c = search (rules, net_laid)
