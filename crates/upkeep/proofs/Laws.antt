-- While a summary agrees with its ledger, a change and an append keep it so. Assumes nothing.
use Prim.Native.Nat.{ℕ}
use mathlib.Core.List.{List}
use Rattle.totals.specs.Summary.{Agrees}
use Rattle.upkeep.specs.Keeping.{Kept}
use Rattle.upkeep.proofs.Keeping.{change_agrees, append_agrees}
use Rattle.upkeep.proofs.Taken.{change_total, change_taken, append_taken}

pub agrees_kept : (room : List ℕ) (count : ℕ) (summary : List ℕ) → Agrees room count summary → Kept room count summary
agrees_kept room count summary agrees =
    record {
      change = λ line value new e. change_agrees room count summary line value new e agrees;
      change_total = change_total room count summary agrees;
      append = λ value new e. append_agrees room count summary value new e agrees;
      change_taken = change_taken room count summary agrees;
      append_taken = append_taken room count summary agrees;
    }
