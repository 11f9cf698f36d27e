-- `overview::lines::worst_line` meets its contract. Assumes nothing.
use borrow.Author.Rules.{rules}
use Rattle.overview.proofs.Short.{SmallTally, worst_written}
use Rattle.overview.proofs.lines.worst_line.Goals as goal

pub returns : goal.returns
returns c =
    let small : SmallTally c.args.tally = search rules in
    search worst_written
