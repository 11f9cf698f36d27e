-- The attribute job aid of document 000: sample size and upper bound, in the order of K10's refusals: 1, 25, 26. Definitions: nothing is assumed.
use Rattle.std.specs.Prelude.{◌≡◌, List, [], ◌∷◌, ℕ, suc, ◌+◌, ◌*◌, eqb, ltb, get_or, Result}
use Rattle.terms.specs.declared.Refusal.{Refusal}
use Rattle.terms.specs.Outcome.{Outcome, accepted, refused, after, says}
use Rattle.terms.specs.Numbers.{pick}
use Rattle.attributes.specs.Rule.{Unlikely, Enough, Least}
use Rattle.attributes.specs.Table.{levels, tolerances, sizes, bounds}

-- where a number stands in a list whose first place is counted as `from`; refusal `why` where it does not
unfoldable pub place_from : ℕ → ℕ → List ℕ → ℕ → Outcome ℕ
place_from from why [] v = refused why 0
place_from from why (x ∷ xs) v = pick (eqb v x) (accepted from) (place_from (suc from) why xs v)

unfoldable pub level_place : ℕ → Outcome ℕ
unfolding place_from levels
level_place level = place_from 0 1 levels level

unfoldable pub tolerance_place : ℕ → Outcome ℕ
unfolding place_from tolerances
tolerance_place tolerance = place_from 0 25 tolerances tolerance

-- the place of both in table 1, which has three sizes in a row: a level that is lacking comes before a tolerance
unfoldable pub entry_place : ℕ → ℕ → Outcome ℕ
entry_place level tolerance = after (λ column. after (λ row. accepted (row * 3 + column)) (tolerance_place tolerance)) (level_place level)

-- the sample size
unfoldable pub items_of : ℕ → ℕ → Outcome ℕ
items_of level tolerance = after (λ place. accepted (get_or sizes place 0)) (entry_place level tolerance)

-- the upper bound: eleven for each size; more than ten exceptions are refused last
unfoldable pub bound_at : ℕ → ℕ → Outcome ℕ
bound_at exceptions place = pick (ltb 10 exceptions) (refused 26 0) (accepted (get_or bounds (place * 11 + exceptions) 0))

unfoldable pub bound_of : ℕ → ℕ → ℕ → Outcome ℕ
bound_of level tolerance exceptions = after (bound_at exceptions) (entry_place level tolerance)

-- what `size` promises: the entry of the table, and that no smaller number of items is enough
pub record ItemsPromise (level tolerance : ℕ) (r : Result ℕ Refusal) : Type 0 where
  pub answer : says r ≡ items_of level tolerance
  pub rule : (items : ℕ) → says r ≡ accepted items → Least (Enough level tolerance) items

-- the upper bound by the rule: the least share in hundredths of a percent, for a sample of the size that level and tolerance have
pub record BoundRule (level tolerance exceptions hundredths : ℕ) : Type 0 where
  pub items : ℕ
  pub of_size : items_of level tolerance ≡ accepted items
  pub least : Least (Unlikely 10000 level items exceptions) hundredths

-- what `bound` promises: the entry of the table, and that it is the bound by the rule
pub record BoundPromise (level tolerance exceptions : ℕ) (r : Result ℕ Refusal) : Type 0 where
  pub answer : says r ≡ bound_of level tolerance exceptions
  pub rule : (hundredths : ℕ) → says r ≡ accepted hundredths → BoundRule level tolerance exceptions hundredths
