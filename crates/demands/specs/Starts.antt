-- Sums over all starts, the errors entered at a start, and the true errors of sampled and of full lines, one part by itself. Definitions: nothing is
-- assumed.
use Rattle.std.specs.Prelude.{ℕ, zero, suc, ◌+◌, ◌≤◌, Bool, List, [], ◌∷◌, eqb, get_or, drop}
use Rattle.terms.specs.Numbers.{pick}
use Rattle.draw.specs.Row.{full}

-- f 0 + f 1 + .. + f (n - 1)
unfoldable pub sum_below : ℕ → (ℕ → ℕ) → ℕ
sum_below zero f = 0
sum_below (suc n) f = sum_below n f + f n

-- 1 where the test passes
abbrev pub one_if : Bool → ℕ
one_if test = pick test 1 0

-- no true error, by its size or by a part of it, is above the line's book value
unfoldable pub Within : List ℕ → List ℕ → Type 0
Within ledger errors = (item : ℕ) → get_or errors item 0 ≤ get_or ledger item 0

-- what is entered of an error, or of a part of it: that of a drawn or full line, and none for the others
abbrev pub entered_of : {A : Type 0} → A → ℕ → A → A
entered_of none mark error = pick (eqb mark 0) none error

-- the errors that are entered where the draw leaves these marks
unfoldable pub entered : {A : Type 0} → A → List ℕ → List A → List A
entered none [] errors = []
entered none (mark ∷ later) errors = entered_of none mark (get_or errors 0 none) ∷ entered none later (drop 1 errors)

-- the true error of the sampled lines, and of the full ones, in one part of the errors
unfoldable pub sampled_error : ℕ → List ℕ → List ℕ → ℕ
sampled_error J [] errors = 0
sampled_error J (value ∷ later) errors = pick (full J value) 0 (get_or errors 0 0) + sampled_error J later (drop 1 errors)

unfoldable pub full_error : ℕ → List ℕ → List ℕ → ℕ
full_error J [] errors = 0
full_error J (value ∷ later) errors = pick (full J value) (get_or errors 0 0) 0 + full_error J later (drop 1 errors)
