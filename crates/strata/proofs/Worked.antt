-- A ledger of three strata worked by hand, and the edges of the refusals, by computation. Assumes nothing.
use mathlib.Core.Path.{◌≡◌, refl}
use mathlib.Core.Bool.{true, false}
use mathlib.Core.List.{List, [], ◌∷◌}
use Prim.Native.Nat.{ℕ}
use lib.ListN.{replicate}
use Rattle.terms.specs.Outcome.{accepted, refused}
use Rattle.ledger.specs.Ledger.{running_total, running_from}
use Rattle.strata.specs.declared.Row.{Row}
use Rattle.strata.specs.Strata.{parts_of, books_of, no_row, plan_of}
use Rattle.strata.specs.Starts.{started_of}

-- the second stratum has no line
abbrev pub grants : List ℕ
grants = 50 ∷ 5 ∷ 5 ∷ 20 ∷ 20 ∷ 0 ∷ []

abbrev pub counts : List ℕ
counts = 3 ∷ 0 ∷ 3 ∷ []

pub books : books_of (parts_of counts grants) ≡ 60 ∷ 0 ∷ 40 ∷ []
unfolding parts_of books_of
books = refl

-- of 4 draws each stratum with value gets one; of the other 2 the first has a whole part of 1 and 20 over, the third 0 and 80 over, so the leftover draw is the third's;
-- 50 is full in the first, and its J is 10; the third's is 20
abbrev pub rows : List Row
rows =
    record { draws = 2; figures = record { interval = 10; draws_left = 1; sampled_total = 10; full_lines = 1; full_total = 50 } } ∷ no_row ∷
    record { draws = 2; figures = record { interval = 20; draws_left = 2; sampled_total = 40; full_lines = 0; full_total = 0 } } ∷ []

pub plan_by_hand : plan_of grants counts 4 true ≡ accepted rows
unfolding plan_of running_total running_from
plan_by_hand = refl

-- 22 before 30, 30 before 13, 13 before 3, and 3 with the line's number in the whole ledger
pub before_the_total : (plan_of grants [] 4 true ≡ refused 22 0) × (plan_of grants (replicate 33 0) 4 true ≡ refused 22 0) × (plan_of grants (3 ∷ 2 ∷ []) 4 false ≡ refused 30 0)
    × (plan_of (1 ∷ 2 ∷ 10000000000001 ∷ []) (2 ∷ 1 ∷ []) 4 false ≡ refused 13 0) × (plan_of (1 ∷ 2 ∷ 10000000000001 ∷ []) (2 ∷ 1 ∷ []) 4 true ≡ refused 3 2)
unfolding plan_of running_total running_from
before_the_total = (refl, refl, refl, refl, refl)

-- 32 strata are taken; a ledger without value is 5, before 8; 8 before 23; as many draws as strata with value are enough
pub after_the_total : (plan_of (1 ∷ []) (1 ∷ replicate 31 0) 0 true ≡ refused 8 0) × (plan_of (0 ∷ 0 ∷ []) (1 ∷ 1 ∷ []) 0 true ≡ refused 5 0)
    × (plan_of grants counts 0 true ≡ refused 8 0) × (plan_of grants counts 1 true ≡ refused 23 0)
unfolding plan_of running_total running_from
after_the_total = (refl, refl, refl, refl)

-- 13 also for the starts; 11 names the first wrong stratum, and a stratum without value has start 0 alone
pub starts_by_hand : (started_of grants counts 4 (7 ∷ 0 ∷ 3 ∷ []) 6 ≡ accepted rows) × (started_of grants counts 4 (7 ∷ 0 ∷ []) 6 ≡ refused 13 0)
    × (started_of grants counts 4 (7 ∷ 0 ∷ 3 ∷ []) 5 ≡ refused 13 0) × (started_of grants counts 4 (10 ∷ 1 ∷ 20 ∷ []) 6 ≡ refused 11 0)
    × (started_of grants counts 4 (9 ∷ 1 ∷ 20 ∷ []) 6 ≡ refused 11 1) × (started_of grants counts 4 (9 ∷ 0 ∷ 20 ∷ []) 6 ≡ refused 11 2)
unfolding started_of running_total running_from
starts_by_hand = (refl, refl, refl, refl, refl, refl)
