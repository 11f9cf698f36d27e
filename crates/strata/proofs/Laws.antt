-- Each stratum by itself: its row is that of its own lines and its share, and its interval is within its book value. Assumes nothing.
use mathlib.Core.Path.{◌≡◌, refl, ap, ◌∙◌}
use mathlib.Core.List.{List, [], ◌∷◌}
use Prim.Native.Nat.{ℕ, zero, suc, ◌≤◌, zero-le}
use native.Mathlib.Nat.{div-le_self}
use native.Mathlib.Omega.{arith}
use lib.Dec.{eqb}
use lib.ListN.{get_or, take, drop, take-append-drop}
use Rattle.terms.specs.Numbers.{sum}
use Rattle.terms.proofs.Sums.{sum_append}
use Rattle.terms.proofs.Tests.{by_test}
use Rattle.split.specs.Rounds.{rounds, split_lines}
use Rattle.split.proofs.Answer.{split_settles}
use Rattle.strata.specs.declared.Row.{Row}
use Rattle.strata.specs.Strata.{parts_of, no_row, row_of, rows_of}
use Rattle.strata.proofs.Padded.{later_at}

-- past the last stratum there is nothing, and its row is 0
pub row_at : (parts : List (List ℕ)) (draws : List ℕ) (h : ℕ) → get_or (rows_of parts draws) h no_row ≡ row_of (get_or parts h []) (get_or draws h 0)
unfolding rows_of row_of
row_at [] draws h = refl
row_at (part ∷ parts) draws zero = refl
row_at (part ∷ parts) draws (suc h) = row_at parts (drop 1 draws) h ∙ ap (row_of (get_or parts h [])) (later_at 0 draws h)

pub part_within : (counts ledger : List ℕ) (h : ℕ) → sum (get_or (parts_of counts ledger) h []) ≤ sum ledger
unfolding parts_of
part_within [] ledger h = zero-le
part_within (count ∷ counts) ledger zero = omega (arith, sum_append (take count ledger) (drop count ledger), ap sum (take-append-drop count ledger))
part_within (count ∷ counts) ledger (suc h) =
    omega (arith, part_within counts (drop count ledger) h, sum_append (take count ledger) (drop count ledger), ap sum (take-append-drop count ledger))

interval_most : (part : List ℕ) (draws : ℕ) → (split_lines part draws).interval ≤ sum part
unfolding rounds
interval_most part zero = zero-le
interval_most part (suc draws) = omega (arith, (split_settles part (suc draws) (omega arith)).small, div-le_self (sum part) (suc draws))

pub row_narrow : (part : List ℕ) (draws : ℕ) → (row_of part draws).figures.interval ≤ sum part
unfolding row_of
row_narrow part draws = by_test (λ (r : Row). r.figures.interval ≤ sum part) (eqb (sum part) 0) (λ z. zero-le) (λ z. interval_most part draws)
