-- `lines::signed_amount` meets its contract: nothing without an error, and else the size of what is projected with the sign of the error. Assumes nothing.
use Rattle.lines.proofs.Writing.{signed_none, amount_holds, signed_amount}
use Rattle.lines.proofs.signed_amount.Goals as goal

pub returns-then-error-eq0 : goal.returns-then-error-eq0
returns-then-error-eq0 c = search signed_none

pub signed_of-requires : goal.signed_of-requires
signed_of-requires c = search amount_holds

pub returns : goal.returns
returns c = search signed_amount
