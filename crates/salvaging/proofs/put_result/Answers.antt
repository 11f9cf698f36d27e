-- `salvaging::put_result` meets its contract: the first bytes, then Z. Assumes nothing.
use Rattle.salvaging.proofs.Answers.{room_for_end, with_end_laid}
use Rattle.salvaging.proofs.put_result.Goals as goal

pub put_two-requires : goal.put_two-requires
put_two-requires c = search room_for_end

pub returns : goal.returns
returns c = search with_end_laid
