-- `overview::lines::sums_line` meets its contract. Assumes nothing.
use borrow.Author.Rules.{rules}
use Rattle.overview.proofs.Short.{SmallTally, sums_written}
use Rattle.overview.proofs.lines.sums_line.Goals as goal

pub returns : goal.returns
returns c =
    let small : SmallTally c.args.tally = search rules in
    search sums_written
