-- Each kind's sum fits an amount with a sign. Assumes nothing.
use Rattle.stratified.proofs.Totalling.{over_signed, under_signed}
use Rattle.stratified.proofs.totals.with_totals.Goals as goal

pub net_of-requires : goal.net_of-requires
net_of-requires c = (search over_signed, search under_signed)
