-- `mus::method::mus_judge` meets its contract: what it returns shows the operation's own answer. Assumes nothing.
use Rattle.mus.proofs.method.mus_judge.Goals as goal

pub returns : goal.returns
returns c = record { answer = c.judge.result; promised = c.judge.ensures; shown = c.into.ensures }
