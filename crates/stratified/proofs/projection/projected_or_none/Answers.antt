-- By the two cases of the answer. Assumes nothing.
use mathlib.Core.Path.{◌∙◌}
use Rattle.stratified.proofs.Totalling.{or_none}
use Rattle.stratified.proofs.projection.projected_or_none.Goals as goal

pub returns : goal.returns
returns c = c.unwrap_or.ensures ∙ or_none c.args.projected
