-- What is no byte is no level and no tolerance. Assumes nothing.
use Rattle.confidence.proofs.Asking.{byte_stands}
use Rattle.confidence.proofs.byte_of.Goals as goal

pub returns : goal.returns
returns c = rw c.unwrap_or.ensures (byte_stands _ _ c.try_from.ensures)
