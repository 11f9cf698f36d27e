-- A judgement is added with its upper limit. Assumes nothing.
use mathlib.Core.Path.{sym, ◌∙◌}
use Rattle.season.proofs.Answers.{was_judged}
use Rattle.season.proofs.entry_of.Goals as goal

pub returns : goal.returns
returns c = was_judged c.args.level c.args.book c.args.answer c.in_ok-judgement.judgement (sym c.ok.ensures.value ∙ c.in_ok-judgement.was)
