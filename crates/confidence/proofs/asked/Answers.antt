-- `confidence::asked` meets its contract: the first line, and its three numbers. Assumes nothing.
use borrow.Author.Rules.{rules}
use Rattle.confidence.proofs.Asking.{line_long, first_asked}
use Rattle.confidence.proofs.asked.Goals as goal

pub slice_bounds-read_numbers-end : goal.slice_bounds-read_numbers-end
slice_bounds-read_numbers-end c = search (rules, line_long)

pub returns : goal.returns
returns c = search (rules, first_asked)
