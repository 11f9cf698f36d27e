-- `mus::posting::mus_post` meets its contract: what it returns shows the operation's own answer. Assumes nothing.
use borrow.Author.Rules.{rules}
use Rattle.mus.proofs.posting.mus_post.Goals as goal

pub returns : goal.returns
returns c = search rules
