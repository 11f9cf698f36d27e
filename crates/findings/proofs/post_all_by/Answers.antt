-- The lengths, then the pairs. Assumes nothing.
use Rattle.bits.proofs.Lists.{bits_length}
use Rattle.findings.proofs.Pairs.{all_lengths, all_lists, all_postable, all_posted}
use Rattle.findings.proofs.post_all_by.Goals as goal
use Rattle.findings.proofs.post_all_by.Goals.{then-not-equally_long-via-then-not-equally_long, then-not-equally_long-via-else-not-equally_long+then-found-lines}

pub returns-then-not-equally_long : goal.returns-then-not-equally_long
returns-then-not-equally_long c =
    elim c.then-not-equally_long.branch [
      | then-not-equally_long-via-then-not-equally_long w ↦ search (all_lengths, bits_length)
      | then-not-equally_long-via-else-not-equally_long+then-found-lines w ↦ search (all_lists, bits_length)
    ]

pub post_pairs-requires : goal.post_pairs-requires
post_pairs-requires c = search (all_postable, bits_length)

pub returns : goal.returns
returns c = search (all_posted, bits_length)
