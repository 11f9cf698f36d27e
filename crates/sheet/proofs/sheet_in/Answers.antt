-- `sheet::sheet_in` meets its contract: 18, or the text on a page that has room for every text. Assumes nothing.
use native.Mathlib.Omega.{arith}
use Rattle.pen.proofs.Writing.{printed}
use Rattle.sheet.proofs.Paging.{page_short, page_long}
use Rattle.sheet.proofs.sheet_in.Goals as goal

pub returns-then-page-lt-LONGEST_TEXT : goal.returns-then-page-lt-LONGEST_TEXT
returns-then-page-lt-LONGEST_TEXT c = page_short _ _ (omega arith)

pub returns : goal.returns
returns c = let text = c.print_input.ensures in
    page_long _ _ (omega arith) _ _ (printed _ _ _ _ (omega (arith, text.input_len_bound)) text.wrote)
