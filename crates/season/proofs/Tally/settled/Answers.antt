-- Where no sum passes 64 bits, one judgement more is at its place, and leads by its share. Assumes nothing.
use mathlib.Core.Path.{sym, ◌∙◌}
use Rattle.season.proofs.Answers.{summed, leading}
use Rattle.season.proofs.Tally.settled.Goals as goal

pub returns-then-leads : goal.returns-then-leads
returns-then-leads c =
    leading c.args.self c.args.at c.args.judged (summed _ _ _ c.checked_add.ensures c.in_ok-books.ensures.ok_part) (summed _ _ _ c.checked_add-2.ensures c.in_ok-limits.ensures.ok_part)
    (summed _ _ _ c.checked_add-3.ensures c.in_ok-count.ensures.ok_part) (sym c.leads.ensures ∙ c.if-leads.true)
