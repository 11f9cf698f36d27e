-- The line that holds a cent: there is one and no other, and where the figures are right it is found through them. Assumes nothing.
use Prim.Native.Nat.{ℕ, zero, suc, ◌+◌, ◌*◌, ◌-◌, ◌≤◌, ◌<◌, zero-le}
use mathlib.Core.Path.{◌≡◌, refl, sym, ap, ◌∙◌}
use mathlib.Core.List.{List, [], ◌∷◌}
use mathlib.Core.Logic.{⊎_elim}
use native.Mathlib.Omega.{arith}
use native.Mathlib.Nat.{zero-mul, suc-mul, le_of_suc-le-suc}
use borrow.Author.Tests.{ltb-true, ltb-false, lt-ltb, le-ltb}
use lib.Dec.{ltb}
use lib.ListN.{length, take, drop, length-drop}
use lib.Seq.{take_all, drop-cons}
use Rattle.terms.specs.Outcome.{accepted}
use Rattle.terms.specs.Numbers.{sum}
use Rattle.terms.proofs.Tests.{by_test, le_or_lt}
use Rattle.totals.specs.Summary.{totals_by, block_totals}
use Rattle.totals.specs.Lookup.{line_within, block_by, block_in, line_holding, HoldsCent}
use Rattle.totals.proofs.Loops.{sum_take}

-- the line that is found holds the cent
pub line_holds : (ledger : List ℕ) (cent : ℕ) → cent < sum ledger → HoldsCent ledger cent (line_holding ledger cent)
unfolding line_holding
line_holds [] cent h = absurd (omega arith)
line_holds (v ∷ l) cent h =
    by_test (HoldsCent (v ∷ l) cent) (ltb cent v) (λ p. let q = ltb-true cent v p in record { inside = omega arith; begins = zero-le; ends = omega arith })
    (λ p. let q = ltb-false cent v p in
    let later = line_holds l (cent - v) (omega arith) in
    record { inside = omega (arith, later.inside); begins = omega (arith, later.begins); ends = omega (arith, later.ends) })

-- no other line does
pub line_only : (ledger : List ℕ) (cent line : ℕ) → HoldsCent ledger cent line → line ≡ line_holding ledger cent
unfolding line_holding
line_only [] cent line c = absurd (omega (arith, c.inside))
line_only (v ∷ l) cent zero c = simp (lt-ltb cent v (omega (arith, c.ends)))
line_only (v ∷ l) cent (suc line) c =
    let past : v ≤ cent = omega (arith, c.begins) in
    simp (le-ltb cent v past)
    (ap suc (line_only l (cent - v) line record { inside = le_of_suc-le-suc c.inside; begins = omega (arith, c.begins); ends = omega (arith, c.ends) }))

-- what a line holds lies below the total
pub holds_below : (ledger : List ℕ) (cent line : ℕ) → HoldsCent ledger cent line → cent < sum ledger
holds_below ledger cent line c = omega (arith, sum_take line ledger, ap sum (drop-cons ledger line 0 c.inside), c.ends)

-- the lines of a block: where the cent lies in the first k lines, and where it lies past them
line_first : (k : ℕ) (l : List ℕ) (c : ℕ) → c < sum (take k l) → line_holding (take k l) c ≡ line_holding l c
unfolding line_holding
line_first zero l c h = absurd (omega arith)
line_first (suc k) [] c h = refl
line_first (suc k) (v ∷ l) c h =
    ⊎_elim (λ (p : v ≤ c). simp (le-ltb c v p) (ap suc (line_first k l (c - v) (omega arith)))) (λ (p : c < v). simp (lt-ltb c v p)) (le_or_lt v c)

line_past : (k : ℕ) (l : List ℕ) (c : ℕ) → sum (take k l) ≤ c → k ≤ length l → line_holding l c ≡ k + line_holding (drop k l) (c - sum (take k l))
unfolding line_holding
line_past zero l c h i = let e : c - 0 ≡ c = omega arith in sym (ap (λ (m : ℕ). line_holding l m) e) ∙ omega arith
line_past (suc k) [] c h i = absurd (omega arith)
line_past (suc k) (v ∷ l) c h i =
    let past : v ≤ c = omega arith in
    let e : c - v - sum (take k l) ≡ c - (v + sum (take k l)) = omega arith in
    simp (le-ltb c v past) (omega (arith, line_past k l (c - v) (omega arith) (le_of_suc-le-suc i), ap (line_holding (drop k l)) e))

line_in : (l : List ℕ) (block line c : ℕ) → c < sum l → line_within block line c l ≡ accepted (line + line_holding l c)
unfolding line_within line_holding
line_in [] block line c h = absurd (omega arith)
line_in (v ∷ l) block line c h =
    ⊎_elim
    (λ (p : v ≤ c). let e : suc line + line_holding l (c - v) ≡ line + suc (line_holding l (c - v)) = omega arith in
    simp (le-ltb c v p) (line_in l block (suc line) (c - v) (omega arith) ∙ ap accepted e))
    (λ (p : c < v). let e : line ≡ line + 0 = omega arith in simp (lt-ltb c v p) (ap accepted e)) (le_or_lt v c)

none : (l : List ℕ) → length l ≤ 0 → sum l ≡ 0
none [] h = refl
none (v ∷ l) h = absurd (omega arith)

-- block by block, then line by line, by the figures of the lines themselves
pub block_finds : (k n : ℕ) (l : List ℕ) (b c : ℕ) → c < sum l → length l ≤ n * k → block_by k b c (totals_by k n l) l ≡ accepted (b * k + line_holding l c)
block_finds k zero l b c h few = absurd (omega (arith, none l (omega (arith, zero-mul k))))
block_finds k (suc n) l b c h few =
    ⊎_elim
    (λ (p : sum (take k l) ≤ c).
    let all = sum_take k l in
    let some : k ≤ length l = ⊎_elim (λ (q : k ≤ length l). q) (λ (q : length l < k). absurd (omega (arith, ap sum (take_all k l (omega arith))))) (le_or_lt k (length l)) in
    let later = block_finds k n (drop k l) (suc b) (c - sum (take k l)) (omega arith) (omega (arith, length-drop k l, suc-mul n k)) in
    let e : suc b * k + line_holding (drop k l) (c - sum (take k l)) ≡ b * k + line_holding l c = omega (arith, suc-mul b k, line_past k l c p some) in
    simp (le-ltb c (sum (take k l)) p) (later ∙ ap accepted e))
    (λ (p : c < sum (take k l)).
    let e : b * k + line_holding (take k l) c ≡ b * k + line_holding l c = ap (λ (m : ℕ). b * k + m) (line_first k l c p) in
    simp (lt-ltb c (sum (take k l)) p) (line_in (take k l) b (b * k) c p ∙ ap accepted e))
    (le_or_lt (sum (take k l)) c)

pub finds : (n : ℕ) (l : List ℕ) (c : ℕ) → c < sum l → length l ≤ n * 256 → block_in 0 c (block_totals n l) l ≡ accepted (line_holding l c)
unfolding block_in block_totals
finds n l c h few = let e : 0 * 256 + line_holding l c ≡ line_holding l c = omega arith in block_finds 256 n l 0 c h few ∙ ap accepted e
