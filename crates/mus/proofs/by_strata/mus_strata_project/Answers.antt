-- `mus::by_strata::mus_strata_project` meets its contract: what it returns shows the operation's own answer. Assumes nothing.
use Rattle.mus.proofs.by_strata.mus_strata_project.Goals as goal

pub returns : goal.returns
returns c = record { answer = c.project_strata.result; promised = c.project_strata.ensures; shown = c.into.ensures }
