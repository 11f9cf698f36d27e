-- `confidence::statement_line` meets its contract: the word, the figures, the bound, the end of the line. Assumes nothing.
use borrow.Author.Rules.{rules}
use Rattle.confidence.proofs.Writing.{statement_laid}
use Rattle.confidence.proofs.statement_line.Goals as goal

pub returns : goal.returns
returns c = statement_laid _ _ _ (search rules) c.text.ensures c.fields-filled.ensures c.end_line.ensures
