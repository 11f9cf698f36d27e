-- `records::rules::allows` meets its contract at E and U: the size is tested against that of its kind. Assumes nothing.
use native.Mathlib.Omega.{arith}
use Rattle.records.proofs.Judging.{size_tested}
use Rattle.records.proofs.rules.allows.Goals as goal

pub returns-then-size-gt0 : goal.returns-then-size-gt0
returns-then-size-gt0 c = size_tested _ c.in-ErrorOf.is (omega arith) (omega arith) (omega arith) c.most_size.ensures
