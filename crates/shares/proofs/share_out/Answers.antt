-- What is given out of the portions is the shares. Assumes nothing.
use Rattle.shares.proofs.Portioning.{shared_out}
use Rattle.shares.proofs.share_out.Goals as goal

pub returns : goal.returns
returns c = shared_out c.requires c.portions_of.ensures c.give_out.ensures
