-- The promises of totals beside the ledger leave no freedom: any two results that meet one agree. Assumes nothing.
use Prim.Native.Nat.{ℕ}
use mathlib.Core.List.{List}
use Rattle.totals.specs.Summary.{BuildPromise, TotalPromise}
use Rattle.totals.specs.Lookup.{FindPromise}
use Rattle.totals.specs.Comparison.{CheckPromise}
use Rattle.totals.proofs.Answers.{build_once, total_once, find_once, check_once}
use Rattle.upkeep.specs.Upkeep.{ChangePromise, AppendPromise}
use Rattle.upkeep.proofs.Answers.{change_once, append_once}
use Rattle.contracts.specs.Unique.{One, OneWith, Two}

pub builds_once : (room : List ℕ) (count : ℕ) (summary : List ℕ) → OneWith (BuildPromise room count summary)
builds_once _ _ _ _ _ _ _ p q = build_once p q

pub totals_once : (room : List ℕ) (count : ℕ) (summary : List ℕ) → One (TotalPromise room count summary)
totals_once _ _ _ _ _ p q = total_once p q

pub finds_once : (room : List ℕ) (count : ℕ) (summary : List ℕ) (cent : ℕ) → One (FindPromise room count summary cent)
finds_once _ _ _ _ _ _ p q = find_once p q

pub changes_once : (room : List ℕ) (count : ℕ) (summary : List ℕ) (line value : ℕ) → OneWith (λ r (b : Two). ChangePromise room count summary line value r b.0 b.1)
changes_once _ _ _ _ _ _ _ _ _ p q = change_once p q

pub appends_once : (room : List ℕ) (count : ℕ) (summary : List ℕ) (value : ℕ) → OneWith (λ r (b : Two). AppendPromise room count summary value r b.0 b.1)
appends_once _ _ _ _ _ _ _ _ p q = append_once p q

pub checks_once : (room : List ℕ) (count : ℕ) (summary : List ℕ) → One (CheckPromise room count summary)
checks_once _ _ _ _ _ p q = check_once p q
