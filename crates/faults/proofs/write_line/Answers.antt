-- `faults::write_line` meets its contract: its parts, one after the other. Assumes nothing.
use Rattle.faults.proofs.Parts.{fault_laid}
use Rattle.faults.proofs.write_line.Goals as goal

pub returns : goal.returns
returns c = fault_laid c.args.by c.args.fault c.text.ensures c.number.ensures c.text-placed.ensures c.wrong_words.ensures c.text-2.ensures c.byte.ensures
