-- `mus::method::mus_project` meets its contract: what it returns shows the operation's own answer. Assumes nothing.
use Rattle.mus.proofs.method.mus_project.Goals as goal

pub returns : goal.returns
returns c = record { answer = c.project.result; promised = c.project.ensures; shown = c.into.ensures }
