-- The lengths, then the one pair. Assumes nothing.
use Rattle.bits.proofs.Lists.{bits_length}
use Rattle.findings.proofs.Posting.{post_lengths, post_single}
use Rattle.findings.proofs.post_by.Goals as goal

pub returns-then-not-equally_long : goal.returns-then-not-equally_long
returns-then-not-equally_long c = search (post_lengths, bits_length)

pub returns : goal.returns
returns c = search post_single
