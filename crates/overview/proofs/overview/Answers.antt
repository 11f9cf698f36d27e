-- `overview::overview` meets its contract: the page has room for every sheet. Assumes nothing.
use native.Mathlib.Omega.{arith}
use Rattle.overview.proofs.Short.{files_printed}
use Rattle.overview.proofs.overview.Goals as goal

pub returns : goal.returns
returns c = files_printed _ c.tally_files.result c.tally_files.ensures (omega arith) c.print_season.ensures
