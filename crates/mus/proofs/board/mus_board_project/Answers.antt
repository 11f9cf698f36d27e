-- `mus::board::mus_board_project` meets its contract: what it returns shows the operation's own answer. Assumes nothing.
use Rattle.mus.proofs.board.mus_board_project.Goals as goal

pub returns : goal.returns
returns c = record { answer = c.board_project.result; promised = c.board_project.ensures; shown = c.into.ensures }
