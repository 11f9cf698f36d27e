-- `reader::check` meets its contract: Z is last, and what follows it decides. Assumes nothing.
use borrow.Author.Rules.{rules}
use native.Mathlib.Omega.{arith}
use Rattle.reader.proofs.Passing.{closes, trails}
use Rattle.reader.proofs.check.Goals as goal

pub returns-then-file-stopped-ne13 : goal.returns-then-file-stopped-ne13
returns-then-file-stopped-ne13 c = trails _ _ c.pass-stopped.ensures (search rules) (λ e. omega arith)

pub returns : goal.returns
returns c = closes _ _ c.pass-stopped.ensures (search rules) (omega arith)
