-- `mus::tally::mus_tally_add` meets its contract: what it returns shows the operation's own answer. Assumes nothing.
use Rattle.mus.proofs.tally.mus_tally_add.Goals as goal

pub returns : goal.returns
returns c = record { answer = c.add.result; promised = c.add.ensures; shown = c.into.ensures }
