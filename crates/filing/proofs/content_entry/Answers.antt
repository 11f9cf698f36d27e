-- `filing::content_entry` meets its contract: what the steps answered is added. Assumes nothing.
use mathlib.Core.Path.{sym, ◌∙◌}
use Rattle.filing.proofs.Rows.{content_judged}
use Rattle.filing.proofs.content_entry.Goals as goal

pub returns : goal.returns
returns c = content_judged _ _ _ _ _ c.in_ok-planned.field-0 c.steps.ensures (sym c.ok.ensures.value ∙ c.in_ok-planned.was)
