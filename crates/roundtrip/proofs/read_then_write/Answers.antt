-- `roundtrip::read_then_write` meets its promise: the bytes of what is lent are bytes by their type. Assumes nothing.
use native.Mathlib.Omega.{arith}
use Rattle.std.proofs.lemmas.Result.{err_from_is_err_and}
use Rattle.workfile.proofs.Held.{empty_rooms}
use Rattle.roundtrip.proofs.Trips.{was_read, file_refused, file_again}
use Rattle.roundtrip.proofs.read_then_write.Goals as goal

pub returns-in_err-contents : goal.returns-in_err-contents
returns-in_err-contents c =
    let p = err_from_is_err_and c.from_residual.result c.from_residual.ensures.1 in
    rw (p.1, p.2) (file_refused (λ i. omega (arith, c.type_inv.file i)) empty_rooms c.read.ensures c.in_err-contents.was)

pub returns : goal.returns
returns c = file_again (λ i. omega (arith, c.type_inv.file i)) (was_read c.read.ensures empty_rooms c.in_ok-contents.was) (omega arith) c.write.ensures
