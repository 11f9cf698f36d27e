-- `sheet::lines::answers_text` meets its contract: the lines, one after the other, and no more bytes than they take at most. Assumes nothing.
use borrow.Author.Rules.{rules}
use Rattle.sheet.proofs.Room.{SmallAnswers, answers_short}
use Rattle.sheet.proofs.Written.{answers_written}
use Rattle.sheet.proofs.lines.answers_text.Goals as goal
use Rattle.sheet.proofs.lines.answers_text.Goals.{Start}

small : (c : Start) → SmallAnswers c.args.answers
small c = search rules

pub returns : goal.returns
returns c =
    record { wrote = search answers_written; answers_len_bound = answers_short _ _ _ (small (goal.at.returns c).Start) c.requires.0 }
