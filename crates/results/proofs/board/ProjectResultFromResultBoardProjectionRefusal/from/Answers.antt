-- `results::board::ProjectResultFromResultBoardProjectionRefusal::from` meets its contract: what it returns is what the answer says. Assumes nothing.
use borrow.Author.Rules.{rules}
use Rattle.results.proofs.Shown.{walked_shown}
use Rattle.results.proofs.board.ProjectResultFromResultBoardProjectionRefusal.from.Goals as goal

pub returns : goal.returns
returns c = search (rules, walked_shown)
