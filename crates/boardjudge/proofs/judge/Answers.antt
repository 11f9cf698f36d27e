-- What the steps ask follows from the judgement of the ledger and the figures. Assumes nothing.
use Rattle.split.proofs.Facts.{judged_asked}
use Rattle.judge.proofs.Answer.{judged_ready}
use Rattle.boardjudge.proofs.judge.Goals as goal

pub invariant_of-book : goal.invariant_of-book
invariant_of-book c = record { totalled = judged_asked c.in_ok-total.ensures }

pub invariant_of-board : goal.invariant_of-board
invariant_of-board c =
    let ready = judged_ready _ _ _ _ _ _ c.in_ok-figures.ensures c.in_ok-total.ensures.answer in
    record { on = record { summed = ready.summed; narrow = ready.narrow } }

pub judge_lines-requires : goal.judge_lines-requires
judge_lines-requires c = judged_ready _ _ _ _ _ _ c.in_ok-figures.ensures c.in_ok-total.ensures.answer
