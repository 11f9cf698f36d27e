-- The length of the old Z, where there is one. Assumes nothing.
use Rattle.salvaging.proofs.Found.{size_there, size_none}
use Rattle.salvaging.proofs.old_size.Goals as goal

pub returns-in-Some : goal.returns-in-Some
returns-in-Some c = size_there c.in-Some.is

pub returns-in-None : goal.returns-in-None
returns-in-None c = size_none c.in-None.is
