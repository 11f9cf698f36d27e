-- How n draws are shared out over the strata of a ledger, as document 02, K6, has it. A list holds the strata's book values, in their order.
-- Definitions: nothing is assumed.
use Rattle.std.specs.Prelude.{ℕ, zero, suc, ◌+◌, ◌*◌, ◌-◌, ◌/◌, ◌%◌, max, List, [], ◌∷◌, map, get_or, set, leb}
use Rattle.terms.specs.Numbers.{pick, sum}

-- each stratum with book value gets one
abbrev pub first_draw : ℕ → ℕ
first_draw zero = 0
first_draw (suc cents) = 1

-- how many strata have book value
abbrev pub with_value : List ℕ → ℕ
with_value [] = 0
with_value (book ∷ later) = first_draw book + with_value later

-- the rest go in proportion to book value: a stratum's whole part, and its remainder in parts of the total
unfoldable pub whole_part : ℕ → ℕ → ℕ → ℕ
whole_part rest total book = rest * book / total

unfoldable pub remainder_of : ℕ → ℕ → ℕ → ℕ
remainder_of rest total book = rest * book % total

-- whole parts first: a stratum's draws before any leftover draw
unfoldable pub draws_before : ℕ → ℕ → ℕ → ℕ
unfolding whole_part
draws_before rest total book = first_draw book + whole_part rest total book

-- the largest remainder
abbrev pub largest : List ℕ → ℕ
largest [] = 0
largest (remainder ∷ later) = max remainder (largest later)

-- the stratum that has it, the lower stratum on a tie
unfoldable pub largest_at : List ℕ → ℕ
largest_at [] = 0
largest_at (remainder ∷ later) = pick (leb (largest later) remainder) 0 (suc (largest_at later))

-- the leftover draws go one each to the largest remainders: a stratum that is given one has none left, and there is one above 0 for each draw
-- (`few_left` of proofs/Adding.antt)
unfoldable pub give_out : ℕ → List ℕ → List ℕ → List ℕ
unfolding largest_at
give_out zero remainders draws = draws
give_out (suc leftover) remainders draws =
    let h = largest_at remainders in
    give_out leftover (set remainders h 0) (set draws h (get_or draws h 0 + 1))

-- of all strata, where each with value has got one: the remainders, the draws before any leftover draw, and how many draws are left over
unfoldable pub remainders_of : List ℕ → ℕ → List ℕ
unfolding remainder_of
remainders_of books n = map (remainder_of (n - with_value books) (sum books)) books

unfoldable pub draws_of : List ℕ → ℕ → List ℕ
unfolding draws_before
draws_of books n = map (draws_before (n - with_value books) (sum books)) books

unfoldable pub leftover_of : List ℕ → ℕ → ℕ
unfolding draws_of
leftover_of books n = n - sum (draws_of books n)

-- the shares of n draws: they add to n (`shares_add` of proofs/Laws.antt), and `within_one` and `ranking` say which stratum has what
unfoldable pub shares_of : List ℕ → ℕ → List ℕ
unfolding remainders_of draws_of leftover_of give_out
shares_of books n = give_out (leftover_of books n) (remainders_of books n) (draws_of books n)
