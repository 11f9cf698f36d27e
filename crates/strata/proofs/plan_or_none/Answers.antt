-- By the two cases of the answer. Assumes nothing.
use mathlib.Core.Path.{◌∙◌}
use Rattle.strata.proofs.Planning.{or_none}
use Rattle.strata.proofs.plan_or_none.Goals as goal

pub returns : goal.returns
returns c = c.unwrap_or.ensures ∙ or_none c.args.plan
