-- Where a level and a tolerance stand: in their lists, and together in table 1. Assumes nothing.
use mathlib.Core.Path.{◌≡◌, refl, sym, ap, ◌∙◌}
use mathlib.Core.List.{List, [], ◌∷◌}
use Prim.Native.Nat.{ℕ, suc, ◌+◌, ◌*◌, ◌/◌, ◌%◌, ◌<◌}
use native.Mathlib.Omega.{arith}
use lib.Arith.{digits_div, digits_mod}
use lib.Dec.{eqb}
use lib.ListN.{length, get_or}
use borrow.Author.Tests.{eqb-true, ne_eqb}
use Rattle.terms.specs.Numbers.{AllUpTo}
use Rattle.terms.specs.Outcome.{accepted, refused, after}
use Rattle.terms.proofs.Tests.{by_test}
use Rattle.terms.proofs.Outcomes.{never, after_accepted}
use Rattle.attributes.specs.Table.{levels, tolerances, sizes}
use Rattle.attributes.specs.Attributes.{place_from, level_place, tolerance_place, entry_place, items_of, bound_at, bound_of}

-- a number is in the list, and has place i where the first place is counted as `from`
record Found (xs : List ℕ) (v from i : ℕ) : Type 0 where
  at : ℕ
  counted : i ≡ from + at
  inside : at < length xs
  here : get_or xs at 0 ≡ v

behind : (x : ℕ) {xs : List ℕ} {v from i : ℕ} → Found xs v (suc from) i → Found (x ∷ xs) v from i
behind x f = record { at = suc f.at; counted = omega (arith, f.counted); inside = omega (arith, f.inside); here = f.here }

found : (from why : ℕ) (xs : List ℕ) (v i : ℕ) → place_from from why xs v ≡ accepted i → Found xs v from i
unfolding place_from
found from why [] v i told = never told
found from why (x ∷ xs) v i told =
    by_test (λ o. o ≡ accepted i → Found (x ∷ xs) v from i) (eqb v x)
    (λ is e. let same : from ≡ i = cc in record { at = 0; counted = omega (arith, same); inside = omega arith; here = sym (eqb-true v x is) })
    (λ other e. behind x (found (suc from) why xs v i e)) told

-- counted from 0, the place is that of the list
in_list : (why : ℕ) (xs : List ℕ) (v i : ℕ) → place_from 0 why xs v ≡ accepted i → (i < length xs) × (get_or xs i 0 ≡ v)
in_list why xs v i told =
    let f = found 0 why xs v i told in
    let same : i ≡ f.at = omega (arith, f.counted) in
    (omega (arith, same, f.inside), ap (λ (k : ℕ). get_or xs k 0) same ∙ f.here)

level_stands : (level i : ℕ) → level_place level ≡ accepted i → (i < 3) × (get_or levels i 0 ≡ level)
unfolding level_place levels
level_stands level i told = in_list 1 levels level i told

tolerance_stands : (tolerance i : ℕ) → tolerance_place tolerance ≡ accepted i → (i < 5) × (get_or tolerances i 0 ≡ tolerance)
unfolding tolerance_place tolerances
tolerance_stands tolerance i told = in_list 25 tolerances tolerance i told

-- so a column is one of three, and a row one of five
pub column_fits : (level column : ℕ) → accepted column ≡ level_place level → column < 3
column_fits level column told = (level_stands level column (sym told)).0

pub row_fits : (tolerance row : ℕ) → accepted row ≡ tolerance_place tolerance → row < 5
row_fits tolerance row told = (tolerance_stands tolerance row (sym told)).0

-- an entry of table 1: which level and which tolerance it is for
pub record Entry (level tolerance place : ℕ) : Type 0 where
  pub among : place < 15
  pub its_level : get_or levels (place % 3) 0 ≡ level
  pub its_tolerance : get_or tolerances (place / 3) 0 ≡ tolerance

pub entry_at : (level tolerance place : ℕ) → entry_place level tolerance ≡ accepted place → Entry level tolerance place
unfolding entry_place
entry_at level tolerance place told =
    let outer = after_accepted (λ column. after (λ row. accepted (row * 3 + column)) (tolerance_place tolerance)) (level_place level) place told in
    let column : ℕ = outer.0 in
    let inner = after_accepted (λ row. accepted (row * 3 + column)) (tolerance_place tolerance) place outer.2 in
    let row : ℕ = inner.0 in
    let is : row * 3 + column ≡ place = cc in
    let l = level_stands level column outer.1 in
    let t = tolerance_stands tolerance row inner.1 in
    let rest : place % 3 ≡ column = ap (λ (k : ℕ). k % 3) (sym is) ∙ digits_mod row l.0 in
    let whole : place / 3 ≡ row = ap (λ (k : ℕ). k / 3) (sym is) ∙ digits_div row l.0 in
    record { among = omega (arith, l.0, t.0); its_level = ap (λ (k : ℕ). get_or levels k 0) rest ∙ l.1; its_tolerance = ap (λ (k : ℕ). get_or tolerances k 0) whole ∙ t.1 }

-- a number above all of a list has no place in it
none_past : (from why : ℕ) (xs : List ℕ) {v : ℕ} → AllUpTo 255 xs → 255 < v → place_from from why xs v ≡ refused why 0
unfolding place_from
none_past from why [] small past = refl
none_past from why (x ∷ xs) {v} small past = rw (ne_eqb v x (λ e. omega (arith, small.0, e))) (none_past (suc from) why xs small.1 past)

-- so what is no byte is as little a level, or a tolerance, as 0 is
pub level_past : {v : ℕ} → 255 < v → level_place v ≡ level_place 0
unfolding level_place place_from levels
level_past past = none_past 0 1 levels (omega arith, (omega arith, (omega arith, tt))) past

pub tolerance_past : {v : ℕ} → 255 < v → tolerance_place v ≡ tolerance_place 0
unfolding tolerance_place place_from tolerances
tolerance_past past = none_past 0 25 tolerances (omega arith, (omega arith, (omega arith, (omega arith, (omega arith, tt))))) past

-- both tables are read by the two places alone
module _ (level level' tolerance tolerance' : ℕ) (a : level_place level ≡ level_place level') (b : tolerance_place tolerance ≡ tolerance_place tolerance') where
  entry_by_place : entry_place level tolerance ≡ entry_place level' tolerance'
  unfolding entry_place
  entry_by_place = λ i. after (λ column. after (λ row. accepted (row * 3 + column)) (b i)) (a i)

  pub items_by_place : items_of level tolerance ≡ items_of level' tolerance'
  unfolding items_of
  items_by_place = ap (after (λ place. accepted (get_or sizes place 0))) entry_by_place

  pub bound_by_place : (exceptions : ℕ) → bound_of level tolerance exceptions ≡ bound_of level' tolerance' exceptions
  unfolding bound_of
  bound_by_place exceptions = ap (after (bound_at exceptions)) entry_by_place
