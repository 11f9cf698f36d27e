-- A check that is not refused finds no wrong figure exactly where the summary agrees, and else names the first wrong figure. Assumes nothing.
use Prim.Native.Nat.{ℕ, zero, suc, ◌+◌, ◌<◌}
use mathlib.Core.Path.{◌≡◌, refl, sym, ap, subst, ◌∙◌}
use mathlib.Core.List.{List, [], ◌∷◌}
use native.Mathlib.Omega.{arith}
use borrow.Author.Tests.{eqb-true, eqb-false, eq-eqb}
use lib.Dec.{eqb}
use lib.ListN.{length, get_or}
use Rattle.terms.specs.Outcome.{Outcome, accepted, after}
use Rattle.terms.specs.Limits.{most_lines}
use Rattle.terms.proofs.Outcomes.{after_accepted}
use Rattle.terms.proofs.Tests.{by_test}
use Rattle.ledger.specs.Ledger.{running_total}
use Rattle.std.specs.Prelude.{Option, Some, None}
use Rattle.totals.specs.Summary.{in_use, summary_for, shape_of}
use Rattle.totals.specs.Comparison.{first_wrong, compared_of, FirstWrong}
use Rattle.totals.specs.Agreement.{CheckDecides}
use Rattle.totals.proofs.Shapes.{in_shape}
use Rattle.totals.proofs.Agreeing.{agrees_one, agrees_exactly, summary_long}

-- figures that are right, and figures that are found right
right_same : (xs ys : List ℕ) (b : ℕ) → length ys ≡ length xs → first_wrong b xs ys ≡ None → ys ≡ xs
unfolding first_wrong
right_same [] [] b h e = refl
right_same [] (y ∷ ys) b h e = absurd (omega arith)
right_same (x ∷ xs) [] b h e = absurd (omega arith)
right_same (x ∷ xs) (y ∷ ys) b h e =
    let later = right_same xs ys (suc b) (omega arith) in
    by_test (λ v. v ≡ None → (y ∷ ys) ≡ (x ∷ xs)) (eqb y x) (λ p e. let q = eqb-true y x p in cc (later e)) (λ p e. let z : ◌≡◌ {A = ℕ} 0 1 = cc in absurd (omega arith)) e

same_right : (xs : List ℕ) (b : ℕ) → first_wrong b xs xs ≡ None
unfolding first_wrong
same_right [] b = refl
same_right (x ∷ xs) b = simp (eq-eqb x x refl) (same_right xs (suc b))

-- the first that is wrong
later_wrong : (x y : ℕ) (xs ys : List ℕ) (i : ℕ) → y ≡ x → FirstWrong xs ys i → FirstWrong (x ∷ xs) (y ∷ ys) (suc i)
later_wrong x y xs ys i e w = record { inside = omega (arith, w.inside); wrong = w.wrong; before = from }
  where
    from : (j : ℕ) → j < suc i → get_or (y ∷ ys) j 0 ≡ get_or (x ∷ xs) j 0
    from zero h = e
    from (suc j) h = w.before j (omega arith)

wrong_first : (xs ys : List ℕ) (b w : ℕ) → length ys ≡ length xs → first_wrong b xs ys ≡ Some w → (i : ℕ) × (w ≡ b + i) × FirstWrong xs ys i
unfolding first_wrong
wrong_first [] ys b w h e = let z : ◌≡◌ {A = ℕ} 0 1 = cc in absurd (omega arith)
wrong_first (x ∷ xs) [] b w h e = absurd (omega arith)
wrong_first (x ∷ xs) (y ∷ ys) b w h e =
    let later = wrong_first xs ys (suc b) w (omega arith) in
    by_test (λ v. v ≡ Some w → (i : ℕ) × (w ≡ b + i) × FirstWrong (x ∷ xs) (y ∷ ys) i) (eqb y x)
    (λ p f. let r = later f in (suc r.0, omega (arith, r.1), later_wrong x y xs ys r.0 (eqb-true y x p) r.2))
    (λ p f. let same : b ≡ w = cc in
    (0, omega arith, record { inside = omega arith; wrong = eqb-false y x p; before = λ i l. absurd (omega arith) })) e

module _ (room : List ℕ) (count : ℕ) (summary : List ℕ) where
  -- an accepted check compared figures of the right number
  compared_is : (compared : Option ℕ) → compared_of room count summary ≡ accepted compared →
      (first_wrong 0 (summary_for room count) summary ≡ compared) × (length summary ≡ length (summary_for room count))
  unfolding compared_of
  compared_is compared e =
      let compare : ℕ → Outcome (Option ℕ) = λ total. accepted (first_wrong 0 (summary_for room count) summary) in
      let a = after_accepted (λ many. after compare (running_total (in_use room count))) (shape_of most_lines count (length room) (length summary)) compared e in
      let t = after_accepted compare (running_total (in_use room count)) compared a.2 in
      let f = in_shape _ _ _ _ _ a.1 in
      (cc t.2, omega (arith, f.long, f.are, summary_long room count))

  pub check_decides : CheckDecides room count summary
  check_decides =
      record {
        right = λ compared e.
            let is = compared_is compared e in (
              λ r. (agrees_exactly room count summary).1 (right_same (summary_for room count) summary 0 is.1 (is.0 ∙ r)),
              λ agrees. sym is.0 ∙ ap (first_wrong 0 (summary_for room count)) (agrees_one room count summary agrees) ∙ same_right (summary_for room count) 0,
            );
        wrong = λ block e.
            let is = compared_is (Some block) e in
            let r = wrong_first (summary_for room count) summary 0 block is.1 is.0 in
            let same : r.0 ≡ block = omega (arith, r.1) in
            subst (λ (i : ℕ). FirstWrong (summary_for room count) summary i) same r.2;
      }
