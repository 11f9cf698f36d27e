-- `entry::body::read_numbers` meets its contract: number by number; what is wrong with one is wrong with the line. Assumes nothing.
use Rattle.std.proofs.lemmas.Result.{err_from_is_err_and}
use native.Mathlib.Omega.{arith}
use Rattle.entry.proofs.Lines.{not_read, one_read}
use Rattle.entry.proofs.body.read_numbers.Goals as goal

pub returns-in_err-value : goal.returns-in_err-value
returns-in_err-value c =
    let p = err_from_is_err_and c.from_residual.result c.from_residual.ensures.1 in
    rw (p.1, p.2) (not_read c.loop-read.invariant (omega arith) c.in_err-value.ensures)

pub loop-read-preserved : goal.loop-read-preserved
loop-read-preserved c = one_read c.loop-read.invariant (omega arith) c.in_ok-value.ensures c.one_more-numbers.ensures
