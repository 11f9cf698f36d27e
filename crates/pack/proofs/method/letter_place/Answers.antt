-- `pack::method::letter_place` meets its contract: after the letter the line ends, with the text or with a newline. Assumes nothing.
use borrow.Author.Rules.{rules}
use Rattle.pack.proofs.Letter.{letter_ends, letter_line}
use Rattle.pack.proofs.method.letter_place.Goals as goal
use Rattle.pack.proofs.method.letter_place.Goals.{then-after-text-via-then-after-text, then-after-text-via-else-after-text+then-text-after-eq10}

pub returns-then-after-text : goal.returns-then-after-text
returns-then-after-text c =
    elim c.then-after-text.branch [
      | then-after-text-via-then-after-text w ↦ search (rules, letter_ends)
      | then-after-text-via-else-after-text+then-text-after-eq10 w ↦ search (rules, letter_line)
    ]
