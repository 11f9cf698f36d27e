-- By all eight bits of the marks. Assumes nothing.
use Rattle.findings.proofs.Posting.{post_plain}
use Rattle.findings.proofs.post.Goals as goal

pub returns : goal.returns
returns c = search post_plain
