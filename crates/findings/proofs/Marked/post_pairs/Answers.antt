-- Each way on and out of the loop is a law of the posting. Assumes nothing.
use Rattle.std.proofs.Common.{refl}
use Rattle.std.proofs.lemmas.Result.{err_from_is_err_and}
use native.Mathlib.Omega.{arith}
use Rattle.findings.proofs.Pairs.{posting_none, posting_stops, posting_more, posting_end}
use Rattle.findings.proofs.Marked.post_pairs.Goals as goal

pub loop-position-init : goal.loop-position-init
loop-position-init c = search posting_none

pub returns-in_err-post_pair : goal.returns-in_err-post_pair
returns-in_err-post_pair c =
    let p = err_from_is_err_and c.from_residual.result c.from_residual.ensures.1 in
    rw (p.1, p.2) (posting_stops c.loop-position.invariant (omega arith) (search) c.in_err-post_pair.ensures refl)

pub loop-position-preserved : goal.loop-position-preserved
loop-position-preserved c = posting_more c.loop-position.invariant (omega arith) (search) c.in_ok-post_pair.ensures refl

pub returns : goal.returns
returns c = search posting_end
