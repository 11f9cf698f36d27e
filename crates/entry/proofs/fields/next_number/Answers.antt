-- `entry::fields::next_number` meets its contract: what is wrong with the field is wrong with the line. Assumes nothing.
use Rattle.std.proofs.lemmas.Result.{err_from_is_err_and}
use Rattle.entry.proofs.Lines.{number_wrong}
use Rattle.entry.proofs.fields.next_number.Goals as goal

pub returns-in_err-value : goal.returns-in_err-value
returns-in_err-value c =
    let p = err_from_is_err_and c.from_residual.result c.from_residual.ensures.1 in
    rw (p.1, p.2) (number_wrong c.reach-from.ensures c.if-from-line.false c.reach-to.ensures c.in_err-value.ensures)
