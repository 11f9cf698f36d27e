-- The products fit 64 bits, and the last test says which answer it is; the tests before it the check reads by itself. Assumes nothing.
use Rattle.std.proofs.Common.{arith}
use Rattle.size.proofs.Order.{wanted_fits, sum_fits, spent, answered, at_level}
use Rattle.size.proofs.size.Goals as goal

pub returns-then-tolerable-anticipated : goal.returns-then-tolerable-anticipated
returns-then-tolerable-anticipated c =
    record { answer = at_level _ _ _ _ c.in_ok-level.ensures.answer (spent _ _ _ _ (omega arith) (omega arith) (omega arith) (omega arith) (omega arith) c.expansion.result (omega arith) (omega arith)) }

pub overflow_mul-wanted : goal.overflow_mul-wanted
overflow_mul-wanted c = wanted_fits _ _ _ _ (omega arith) c.reliability.ensures

pub overflow_add-result : goal.overflow_add-result
overflow_add-result c = sum_fits _ _ _ _ (omega arith) c.reliability.ensures _ (omega arith)

pub returns : goal.returns
returns c =
    record {
      answer =
          at_level _ _ _ _ c.in_ok-level.ensures.answer (answered _ _ _ _ (omega arith) (omega arith) (omega arith) (omega arith) (omega arith) c.expansion.result (omega arith) c.reliability.result c.reliability.ensures (omega arith));
    }
