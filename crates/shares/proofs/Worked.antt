-- Shares by computation. Assumes nothing.
use mathlib.Core.Path.{◌≡◌, refl}
use mathlib.Core.List.{[], ◌∷◌}
use Rattle.shares.specs.Shares.{with_value, draws_of, remainders_of, leftover_of, shares_of}

-- 60, 25 and 15 with 10 draws: one each, and of the other 7 these get 4.20, 1.75 and 1.05; the one left over goes to the second
pub by_hand :
    (draws_of (60 ∷ 25 ∷ 15 ∷ []) 10 ≡ 5 ∷ 2 ∷ 2 ∷ []) × (remainders_of (60 ∷ 25 ∷ 15 ∷ []) 10 ≡ 20 ∷ 75 ∷ 5 ∷ []) × (leftover_of (60 ∷ 25 ∷ 15 ∷ []) 10 ≡ 1) × (shares_of (60 ∷ 25 ∷ 15 ∷ []) 10 ≡ 5 ∷ 3 ∷ 2 ∷ [])
unfolding shares_of
by_hand = (refl, refl, refl, refl)

-- ties: the lower stratum first, with one draw left over and with two
pub ties : (shares_of (10 ∷ 10 ∷ 10 ∷ []) 4 ≡ 2 ∷ 1 ∷ 1 ∷ []) × (shares_of (10 ∷ 10 ∷ 10 ∷ []) 5 ≡ 2 ∷ 2 ∷ 1 ∷ [])
unfolding shares_of
ties = (refl, refl)

-- strata without value get none, wherever they stand
pub without_value : (with_value (0 ∷ 70 ∷ 0 ∷ 30 ∷ 0 ∷ []) ≡ 2) × (shares_of (0 ∷ 70 ∷ 0 ∷ 30 ∷ 0 ∷ []) 6 ≡ 0 ∷ 4 ∷ 0 ∷ 2 ∷ 0 ∷ [])
unfolding shares_of
without_value = (refl, refl)

-- as many draws as strata: one each
pub one_each : shares_of (98 ∷ 1 ∷ 1 ∷ []) 3 ≡ 1 ∷ 1 ∷ 1 ∷ []
unfolding shares_of
one_each = refl

-- the largest n, 2^64 - 1
pub largest_n : shares_of (2 ∷ 1 ∷ []) 18446744073709551615 ≡ 12297829382473034410 ∷ 6148914691236517205 ∷ []
unfolding shares_of
largest_n = refl

-- one draw is too few for two strata with value, and two are enough
pub too_few : (with_value (5 ∷ 0 ∷ 5 ∷ []) ≡ 2) × (shares_of (5 ∷ 0 ∷ 5 ∷ []) 2 ≡ 1 ∷ 0 ∷ 1 ∷ [])
unfolding shares_of
too_few = (refl, refl)
