-- `entry::fields::reach` meets its contract: the run goes on, or stops at a byte. Assumes nothing.
use borrow.Author.Rules.{rules}
use Rattle.entry.proofs.Runs.{going_on, going_stops}
use Rattle.entry.proofs.fields.reach.Goals as goal

pub returns-then-not-goes_on : goal.returns-then-not-goes_on
returns-then-not-goes_on c = search (rules, going_stops)

pub loop-at-preserved : goal.loop-at-preserved
loop-at-preserved c = search (rules, going_on)
