-- `entry::fields::reach` meets its contract. The invariant: the run has come to `at`. Assumes nothing.
use Rattle.entry.proofs.Runs.{Going}
use Rattle.entry.proofs.fields.reach.Given as goal

abbrev pub invariant-loop-at : goal.invariant-loop-at
invariant-loop-at l = Going l.run l.text l.from l.at
