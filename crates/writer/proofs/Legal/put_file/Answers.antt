-- `writer::Legal::put_file` meets its contract: its parts one after another are the file, and each has its room. Assumes nothing.
use Rattle.writer.proofs.Answers.{whole_file}
use Rattle.writer.proofs.Legal.put_file.Goals as goal

pub returns : goal.returns
returns c = search whole_file
