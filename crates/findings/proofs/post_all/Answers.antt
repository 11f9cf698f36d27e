-- By all eight bits of the marks. Assumes nothing.
use Rattle.findings.proofs.Pairs.{all_plain}
use Rattle.findings.proofs.post_all.Goals as goal

pub returns : goal.returns
returns c = search all_plain
