-- The errors so far, with the pairs to come, come to what all pairs come to. Assumes nothing.
use Rattle.bits.specs.Own.{bits_of}
use Rattle.findings.proofs.Pairs.{Posting}
use Rattle.findings.proofs.Marked.post_pairs.Given as goal

abbrev pub invariant-loop-position : goal.invariant-loop-position
invariant-loop-position l = Posting l.self.ledger.now (bits_of l.self.bits l.self.marks.now) l.initial.errors l.lines l.found l.position l.errors
