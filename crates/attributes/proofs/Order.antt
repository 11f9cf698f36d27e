-- What the tables answer, in the order of the refusals, and that no other is given. Assumes nothing.
use mathlib.Core.Path.{◌≡◌, sym, ap, ◌∙◌}
use mathlib.Core.List.{List, [], ◌∷◌}
use Prim.Native.Nat.{ℕ, suc, ◌+◌, ◌*◌, ◌≤◌, ◌<◌}
use lib.Dec.{T, eqb, ltb}
use lib.ListN.{get_or}
use borrow.Author.Tests.{lt-ltb, le-ltb}
use Rattle.terms.specs.Outcome.{accepted, refused, refused_by, after}
use Rattle.terms.specs.declared.Refusal.{Refusal}
use Rattle.terms.proofs.Outcomes.{Gives, among, gives_after, gives_among}
use Rattle.terms.proofs.Tests.{by_test}
use Rattle.attributes.specs.Table.{levels, tolerances, sizes, bounds}
use Rattle.attributes.specs.Attributes.{place_from, level_place, tolerance_place, entry_place, items_of, bound_at, bound_of}
use Rattle.attributes.proofs.Places.{entry_at}

-- no place: its refusal is the answer of either table
module _ (level tolerance : ℕ) (why : Refusal) (lacking : refused_by why ≡ entry_place level tolerance) where
  pub items_lacking : refused_by why ≡ items_of level tolerance
  unfolding items_of
  items_lacking = ap (after (λ place. accepted (get_or sizes place 0))) lacking

  pub bound_lacking : (exceptions : ℕ) → refused_by why ≡ bound_of level tolerance exceptions
  unfolding bound_of
  bound_lacking exceptions = ap (after (bound_at exceptions)) lacking

-- a place, where one was found
module _ (level tolerance place : ℕ) (found : accepted place ≡ entry_place level tolerance) where
  pub place_fits : place < 15
  place_fits = (entry_at level tolerance place (sym found)).among

  pub items_read : {entry : ℕ} → entry ≡ get_or sizes place 0 → accepted entry ≡ items_of level tolerance
  unfolding items_of
  items_read is = ap accepted is ∙ ap (after (λ at. accepted (get_or sizes at 0))) found

  pub too_many : {exceptions : ℕ} → 10 < exceptions → refused 26 0 ≡ bound_of level tolerance exceptions
  unfolding bound_of bound_at
  too_many {exceptions} many = sym (simp (lt-ltb 10 exceptions many)) ∙ ap (after (bound_at exceptions)) found

  pub bound_read : {exceptions entry : ℕ} → exceptions ≤ 10 → entry ≡ get_or bounds (place * 11 + exceptions) 0 → accepted entry ≡ bound_of level tolerance exceptions
  unfolding bound_of bound_at
  bound_read {exceptions} few is = ap accepted is ∙ sym (simp (le-ltb 10 exceptions few)) ∙ ap (after (bound_at exceptions)) found

-- The order: 1 whatever else is asked, then 25 whatever the exceptions are; 26 is `too_many`.
module _ (level tolerance exceptions : ℕ) {n p : ℕ} where
  pub one_first : level_place level ≡ refused n p → bound_of level tolerance exceptions ≡ refused n p
  unfolding bound_of entry_place
  one_first lacks = ap (λ o. after (bound_at exceptions) (after (λ column. after (λ row. accepted (row * 3 + column)) (tolerance_place tolerance)) o)) lacks

  pub twenty_five_next : {column : ℕ} → level_place level ≡ accepted column → tolerance_place tolerance ≡ refused n p → bound_of level tolerance exceptions ≡ refused n p
  unfolding bound_of entry_place
  twenty_five_next has lacks = λ i. after (bound_at exceptions) (after (λ (column : ℕ). after (λ (row : ℕ). accepted (row * 3 + column)) (lacks i)) (has i))

-- the refusals of either table
abbrev pub items_numbers : List ℕ
items_numbers = 1 ∷ 25 ∷ []

abbrev pub bound_numbers : List ℕ
bound_numbers = 1 ∷ 25 ∷ 26 ∷ []

list_gives : (from why : ℕ) (xs : List ℕ) (v : ℕ) → T (among why items_numbers) → Gives items_numbers (place_from from why xs v)
unfolding place_from
list_gives from why [] v listed = listed
list_gives from why (x ∷ xs) v listed = by_test (Gives items_numbers) (eqb v x) (λ is. tt) (λ other. list_gives (suc from) why xs v listed)

entry_gives : (level tolerance : ℕ) → Gives items_numbers (entry_place level tolerance)
unfolding entry_place level_place tolerance_place
entry_gives level tolerance =
    let rows : (column : ℕ) → Gives items_numbers (after (λ row. accepted (row * 3 + column)) (tolerance_place tolerance)) =
    λ column. gives_after items_numbers (λ row. accepted (row * 3 + column)) (tolerance_place tolerance) (list_gives 0 25 tolerances tolerance tt) (λ row. tt) in
    gives_after items_numbers (λ column. after (λ row. accepted (row * 3 + column)) (tolerance_place tolerance)) (level_place level) (list_gives 0 1 levels level tt) rows

pub items_gives : (level tolerance : ℕ) → Gives items_numbers (items_of level tolerance)
unfolding items_of
items_gives level tolerance = gives_after items_numbers (λ place. accepted (get_or sizes place 0)) (entry_place level tolerance) (entry_gives level tolerance) (λ place. tt)

pub bound_gives : (level tolerance exceptions : ℕ) → Gives bound_numbers (bound_of level tolerance exceptions)
unfolding bound_of bound_at
bound_gives level tolerance exceptions =
    let first : Gives bound_numbers (entry_place level tolerance) = gives_among items_numbers bound_numbers tt (entry_place level tolerance) (entry_gives level tolerance) in
    gives_after bound_numbers (bound_at exceptions) (entry_place level tolerance) first (λ place. by_test (Gives bound_numbers) (ltb 10 exceptions) (λ many. tt) (λ few. tt))
