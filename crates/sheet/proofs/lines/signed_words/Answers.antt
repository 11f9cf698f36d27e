-- `sheet::lines::signed_words` meets its contract: its parts, one after the other. Assumes nothing.
use Rattle.sheet.proofs.Written.{signed_written}
use Rattle.sheet.proofs.lines.signed_words.Goals as goal

pub returns : goal.returns
returns c = search signed_written
