-- `results::method::JudgeResultFromResultJudgementRefusal::from` meets its contract: what it returns of a judgement is what the answer says. Assumes nothing.
use borrow.Author.Rules.{rules}
use Rattle.results.proofs.Shown.{judgement_shown}
use Rattle.results.proofs.method.JudgeResultFromResultJudgementRefusal.from.Goals as goal

pub returns : goal.returns
returns c = search (rules, judgement_shown)
