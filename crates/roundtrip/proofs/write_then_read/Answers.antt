-- `roundtrip::write_then_read` meets its promise: the numbers of what is lent fit their bytes by their types. Assumes nothing.
use native.Mathlib.Omega.{arith}
use borrow.Author.Rules.{rules}
use Rattle.roundtrip.proofs.Trips.{written_read}
use Rattle.roundtrip.proofs.write_then_read.Goals as goal

pub returns : goal.returns
returns c =
    written_read c.write.ensures c.in_ok-length.was
    (record {
      te = omega arith;
      ae = omega arith;
      words = λ i. omega (arith, c.type_inv.words i);
      values = λ i. omega (arith, c.type_inv.values i);
      errors = c.read_each.ensures;
    })
    (record { words = omega arith; values = omega arith; errors = omega arith }) (search rules)
