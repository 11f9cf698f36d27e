-- `salvaging::salvage` meets its promise: what is said and stored is that of the run. Assumes nothing.
use native.Mathlib.Omega.{arith}
use Rattle.salvaging.proofs.Answers.{ended_so, salvaged}
use Rattle.salvaging.proofs.salvage.Goals as goal

pub said-requires : goal.said-requires
said-requires c = ended_so _ c.pass-stopped.ensures (λ none. omega arith)

pub returns : goal.returns
returns c = salvaged _ _ c.pass-stopped.ensures (λ none. omega arith) (omega arith) c.said.ensures c.put_result.ensures
