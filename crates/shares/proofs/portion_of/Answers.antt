-- The portion is the definition's. Assumes nothing.
use Rattle.shares.proofs.Adding.{portion_is}
use Rattle.shares.proofs.portion_of.Goals as goal

pub returns : goal.returns
returns c = portion_is _ _ _ c.scaled-share.ensures.0 c.first_draw.ensures.0 c.scaled-share.ensures.1
