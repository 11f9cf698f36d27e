-- The measure of `ratio::share_exceeds` is the sum of the two divisors, which the remainders take the place of. Assumes nothing.
use Rattle.std.proofs.Common.{◌+◌}
use Rattle.ratio.proofs.+share_exceeds.Given as goal

abbrev pub decreases-share_exceeds : goal.decreases-share_exceeds
decreases-share_exceeds l = l.b + l.d
