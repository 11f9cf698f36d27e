-- A list of entries with one more at its end. Assumes nothing.
use Rattle.std.specs.Prelude.{Some, None}
use mathlib.Core.Path.{◌≡◌, refl, ap, ◌∙◌}
use mathlib.Core.Bool.{Bool}
use mathlib.Core.List.{List, [], ◌∷◌, map}
use mathlib.Core.Logic.{◌⊎◌, inl, inr}
use Prim.Native.Nat.{ℕ, zero, suc, ◌+◌, ◌≤◌, ◌<◌}
use native.Mathlib.Omega.{arith}
use lib.ListN.{length, length-append, get_or, get_or-append}
use lib.Seq.{get_or-append_seam}
use Rattle.terms.specs.Numbers.{pick, sum}
use Rattle.terms.proofs.Tests.{by_test}
use Rattle.season.specs.Tally.{Entry}
use Rattle.season.specs.declared.Judged.{Judged}
use Rattle.season.specs.Figures.{count_of, At, more}

pub length_more : (l : List Entry) (e : Entry) → length (more l e) ≡ length l + 1
length_more l e = length-append l (e ∷ [])

pub count_more : (test : Entry → Bool) (l : List Entry) (e : Entry) → count_of test (more l e) ≡ count_of test l + pick (test e) 1 0
count_more test [] e = omega arith
count_more test (x ∷ l) e = omega (arith, count_more test l e)

pub sum_more : (f : Entry → ℕ) (l : List Entry) (e : Entry) → sum (map f (more l e)) ≡ sum (map f l) + f e
sum_more f [] e = omega arith
sum_more f (x ∷ l) e = omega (arith, sum_more f l e)

-- no more entries pass a test than there are
pub count_le : (test : Entry → Bool) (l : List Entry) → count_of test l ≤ length l
count_le test [] = omega arith
count_le test (x ∷ l) =
    let rest = count_le test l in
    by_test (λ n. n + count_of test l ≤ suc (length l)) (test x) (λ t. omega arith) (λ t. omega arith)

-- an entry that was refused is no judgement
pub never_judged : {B : Type 0} {j : Judged} → None ≡ Some j → B
never_judged e = let z : ◌≡◌ {A = ℕ} 0 1 = cc in absurd (omega arith)

-- a judgement stands within the list
pub at_lt : (l : List Entry) (k : ℕ) (j : Judged) → At l k j → k < length l
at_lt [] k j e = never_judged e
at_lt (x ∷ l) zero j e = omega arith
at_lt (x ∷ l) (suc k) j e = let h = at_lt l k j e in omega arith

-- it stands where it stood, and the last is at the length
pub at_still : (l : List Entry) (e : Entry) (k : ℕ) (j : Judged) → At l k j → At (more l e) k j
at_still l e k j h = get_or-append l (e ∷ []) None k (at_lt l k j h) ∙ h

pub at_last : (l : List Entry) (e : Entry) → get_or (more l e) (length l) None ≡ e
at_last l e = get_or-append_seam l e [] None

-- so what stands in the longer list stood in the shorter, or is the last
pub at_more : (l : List Entry) (e : Entry) (k : ℕ) (j : Judged) → At (more l e) k j → At l k j ⊎ ((k ≡ length l) × (e ≡ Some j))
at_more [] e zero j h = inr (refl, h)
at_more [] e (suc k) j h = never_judged h
at_more (x ∷ l) e zero j h = inl h
at_more (x ∷ l) e (suc k) j h = elim (at_more l e k j h) [ inl g ↦ inl g | inr g ↦ inr (ap suc g.0, g.1) ]
