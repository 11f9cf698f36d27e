-- Every entry of both tables is the least by the rule: one test, computed over all 180, and one lemma that reads it at an entry. Assumes nothing.
use mathlib.Core.Path.{◌≡◌, sym, ap, ◌∙◌, subst, subst₂}
use Rattle.terms.specs.declared.Refusal.{Refusal}
use Rattle.std.specs.Prelude.{Result}
use mathlib.Core.Bool.{Bool}
use Prim.Native.Nat.{ℕ, ◌+◌, ◌-◌, ◌*◌, ◌/◌, ◌%◌, ◌≤◌}
use native.Mathlib.Omega.{arith}
use lib.Dec.{T, leb, leb→le, ltb}
use lib.ListN.{get_or}
use borrow.Author.Tests.{ltb-false}
use Rattle.terms.specs.Outcome.{accepted, after, says}
use Rattle.terms.proofs.Every.{both, both_left, both_right, below, below_at}
use Rattle.terms.proofs.Tests.{by_test}
use Rattle.terms.proofs.Outcomes.{never, after_accepted}
use Rattle.attributes.specs.Rule.{Unlikely, Enough, Least}
use Rattle.attributes.specs.Table.{levels, tolerances, sizes, bounds}
use Rattle.attributes.specs.Attributes.{entry_place, items_of, ItemsPromise, bound_at, bound_of, BoundRule, BoundPromise}
use Rattle.attributes.proofs.Falling.{share_raised, sample_raised}
use Rattle.attributes.proofs.Computing.{product, summed, unlikely, passes, does_not, size_rule}
use Rattle.attributes.proofs.Least.{edge, least_at}
use Rattle.attributes.proofs.Places.{Entry, entry_at}

-- a share that is within the whole, and a number at the edge of its test
abbrev right : ℕ → ℕ → (ℕ → Bool) → ℕ → Bool
right share whole test v = both (leb share whole) (edge test v)

-- a size by its level and tolerance, with its eleven bounds
abbrev row_right : ℕ → ℕ → ℕ → (ℕ → ℕ) → Bool
row_right level tolerance n bound =
    both (right tolerance 100 (λ m. unlikely 100 level m 0 tolerance) n) (below (λ x. right (bound x) 10000 (unlikely 10000 level n x) (bound x)) 11)

place_right : ℕ → Bool
place_right place = row_right (get_or levels (place % 3) 0) (get_or tolerances (place / 3) 0) (get_or sizes place 0) (λ x. get_or bounds (place * 11 + x) 0)

all_tested : T (below place_right 15)
unfolding place_right levels tolerances sizes bounds edge unlikely summed product
all_tested = tt

module _ (level : ℕ) where
  size_least : (tolerance n : ℕ) → T (right tolerance 100 (λ m. unlikely 100 level m 0 tolerance) n) → Least (λ m. Unlikely 100 level m 0 tolerance) n
  size_least tolerance n t =
      let test : ℕ → Bool = λ m. unlikely 100 level m 0 tolerance in
      let within : tolerance ≤ 100 = leb→le tolerance 100 (both_left (leb tolerance 100) (edge test n) t) in
      least_at (λ m. Unlikely 100 level m 0 tolerance) test n (both_right (leb tolerance 100) (edge test n) t)
      (passes 100 level n 0 tolerance) (does_not 100 level (n - 1) 0 tolerance) (λ w. sample_raised 100 level 0 tolerance within w (n - 1))

  bound_least : (n x h : ℕ) → T (right h 10000 (unlikely 10000 level n x) h) → Least (Unlikely 10000 level n x) h
  bound_least n x h t =
      let test : ℕ → Bool = unlikely 10000 level n x in
      let within : h ≤ 10000 = leb→le h 10000 (both_left (leb h 10000) (edge test h) t) in
      least_at (Unlikely 10000 level n x) test h (both_right (leb h 10000) (edge test h) t)
      (passes 10000 level n x h) (does_not 10000 level n x (h - 1)) (λ w up. share_raised 10000 level n x w (h - 1) up (omega arith))

-- what an entry is by the rule
pub record ByRule (level tolerance n : ℕ) (bound : ℕ → ℕ) : Type 0 where
  pub size : Least (Enough level tolerance) n
  pub bounds : (x : ℕ) → x ≤ 10 → Least (Unlikely 10000 level n x) (bound x)

row_by_rule : (level tolerance n : ℕ) (bound : ℕ → ℕ) → T (row_right level tolerance n bound) → ByRule level tolerance n bound
row_by_rule level tolerance n bound t =
    let first = right tolerance 100 (λ m. unlikely 100 level m 0 tolerance) n in
    let others = below (λ x. right (bound x) 10000 (unlikely 10000 level n x) (bound x)) 11 in
    record {
      size = subst (λ (P : ℕ → Type 0). Least P n) (λ i m. size_rule level tolerance m i) (size_least level tolerance n (both_left first others t));
      bounds =
          λ x few. bound_least level n x (bound x)
          (below_at (λ y. right (bound y) 10000 (unlikely 10000 level n y) (bound y)) 11 (both_right first others t) x (omega arith));
    }

pub by_rule : (level tolerance place : ℕ) → Entry level tolerance place → ByRule level tolerance (get_or sizes place 0) (λ x. get_or bounds (place * 11 + x) 0)
unfolding place_right
by_rule level tolerance place e =
    row_by_rule level tolerance (get_or sizes place 0) (λ x. get_or bounds (place * 11 + x) 0)
    (subst₂ (λ (l t : ℕ). T (row_right l t (get_or sizes place 0) (λ x. get_or bounds (place * 11 + x) 0))) e.its_level e.its_tolerance
    (below_at place_right 15 all_tested place e.among))

-- so what is answered is by the rule
pub items_by_rule : (level tolerance items : ℕ) → items_of level tolerance ≡ accepted items → Least (Enough level tolerance) items
unfolding items_of
items_by_rule level tolerance items told =
    let at = after_accepted (λ place. accepted (get_or sizes place 0)) (entry_place level tolerance) items told in
    let is : get_or sizes at.0 0 ≡ items = cc in
    subst (Least (Enough level tolerance)) is (by_rule level tolerance at.0 (entry_at level tolerance at.0 at.1)).size

bound_told : (exceptions place h : ℕ) → bound_at exceptions place ≡ accepted h → (exceptions ≤ 10) × (get_or bounds (place * 11 + exceptions) 0 ≡ h)
unfolding bound_at
bound_told exceptions place h =
    by_test (λ o. o ≡ accepted h → (exceptions ≤ 10) × (get_or bounds (place * 11 + exceptions) 0 ≡ h)) (ltb 10 exceptions) (λ many e. never e)
    (λ few e. (ltb-false 10 exceptions few, cc))

pub bound_by_rule : (level tolerance exceptions h : ℕ) → bound_of level tolerance exceptions ≡ accepted h → BoundRule level tolerance exceptions h
unfolding bound_of items_of
bound_by_rule level tolerance exceptions h told =
    let at = after_accepted (bound_at exceptions) (entry_place level tolerance) h told in
    let place : ℕ = at.0 in
    let b = bound_told exceptions place h at.2 in
    let ruled = by_rule level tolerance place (entry_at level tolerance place at.1) in
    record {
      items = get_or sizes place 0;
      of_size = ap (after (λ at. accepted (get_or sizes at 0))) at.1;
      least = subst (Least (Unlikely 10000 level (get_or sizes place 0) exceptions)) b.1 (ruled.bounds exceptions b.0);
    }

-- the answer's equation is the whole promise
pub items_promised : {level tolerance : ℕ} {r : Result ℕ Refusal} → says r ≡ items_of level tolerance → ItemsPromise level tolerance r
items_promised {level} {tolerance} e = record { answer = e; rule = λ items told. items_by_rule level tolerance items (sym e ∙ told) }

pub bound_promised : {level tolerance exceptions : ℕ} {r : Result ℕ Refusal} → says r ≡ bound_of level tolerance exceptions → BoundPromise level tolerance exceptions r
bound_promised {level} {tolerance} {exceptions} e = record { answer = e; rule = λ h told. bound_by_rule level tolerance exceptions h (sym e ∙ told) }
