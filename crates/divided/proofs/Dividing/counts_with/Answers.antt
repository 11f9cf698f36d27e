-- `divided::Dividing::counts_with` meets its contract: the count of an open stratum goes to its place, if there is one. Assumes nothing.
use borrow.Author.Rules.{rules}
use native.Mathlib.Omega.{arith}
use Rattle.divided.proofs.Testing.{none_open, past_room, counted}
use Rattle.divided.proofs.Dividing.counts_with.Goals as goal
use Rattle.divided.proofs.Dividing.counts_with.Goals.{then-self-eq0-via-then-self-eq0, then-self-eq0-via-else-self-eq0+then-self-gt-STORED}

pub returns-then-self-eq0 : goal.returns-then-self-eq0
returns-then-self-eq0 c =
    elim c.then-self-eq0.branch [
      | then-self-eq0-via-then-self-eq0 w ↦ search (rules, none_open)
      | then-self-eq0-via-else-self-eq0+then-self-gt-STORED w ↦ past_room _ (λ none. omega arith) {room = 33} (search rules) (omega arith)
    ]

pub returns : goal.returns
returns c = search (rules, counted)
