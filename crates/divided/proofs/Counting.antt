-- The counts of the strata, line by line: those that are done, the one that is open, and those to come. Assumes nothing.
use mathlib.Core.Path.{◌≡◌, refl, sym, ap, ◌∙◌}
use mathlib.Core.List.{List, [], ◌∷◌, ◌++◌, append_assoc}
use Prim.Native.Nat.{ℕ, suc, ◌+◌, ◌-◌, ◌≤◌}
use native.Mathlib.Omega.{arith}
use lib.Dec.{ltb}
use lib.ListN.{length, set, drop, length-append}
use borrow.Author.Tests.{lt-ltb}
use Rattle.divided.specs.Divided.{lines_before, counts_of, laid, no_counts, opened_by, late_by}
use Rattle.divided.specs.Steps.{counts_with, part_taken}
use Rattle.divided.specs.declared.Part.{Part}
use Rattle.divided.specs.declared.Part.TheVariants.{Stratum, Word, Line, Error, Other}
use Rattle.divided.specs.declared.Dividing.{Dividing}
use Rattle.divided.proofs.Testing.{none_open, counted}

pub laid_none : (room : List ℕ) → laid room [] ≡ room
unfolding laid
laid_none [] = refl
laid_none (z ∷ room) = refl

-- the next count goes to its place
set_laid : (room done : List ℕ) (n : ℕ) → set (laid room done) (length done) n ≡ laid room (done ++ (n ∷ []))
unfolding laid
set_laid [] done n = refl
set_laid (z ∷ room) [] n = ap (λ (l : List ℕ). n ∷ l) (sym (laid_none room))
set_laid (z ∷ room) (d ∷ done) n = ap (λ (l : List ℕ). d ∷ l) (set_laid room done n)

-- the counts by S: before the first, and of each
abbrev pub runs_of : List Part → List ℕ
runs_of parts = lines_before parts ∷ counts_of parts

-- what is done, before the first S and of each stratum but the last; and what is open
pub record Keeps (s : Dividing) (done : List ℕ) : Type 0 where
  pub strata : length done ≡ s.strata
  pub counts : s.counts ≡ laid no_counts (drop 1 done)

-- the open one is the next
closes : (s : Dividing) (done : List ℕ) → Keeps s done → counts_with s ≡ laid no_counts (drop 1 (done ++ (s.lines ∷ [])))
closes s [] k = sym (none_open s (sym k.strata)) ∙ k.counts
closes s (d ∷ done) k =
    let place : s.strata - 1 ≡ length done = omega (arith, k.strata) in
    sym (counted s (λ e. omega (arith, k.strata)))
    ∙ (λ i. set (k.counts i) (place i) s.lines) ∙ set_laid no_counts done s.lines

-- what is done after a line
abbrev pub done_with : Dividing → Part → List ℕ → List ℕ
done_with s Stratum done = done ++ (s.lines ∷ [])
done_with s Line done = done
done_with s Word done = done
done_with s Error done = done
done_with s Other done = done

pub keeps_on : (s : Dividing) (part : Part) (done : List ℕ) → Keeps s done → Keeps (part_taken s part) (done_with s part done)
unfolding part_taken
keeps_on s Stratum done k = record { strata = length-append done (s.lines ∷ []) ∙ ap (λ (n : ℕ). n + 1) k.strata; counts = closes s done k }
keeps_on s Line done k = record { strata = k.strata; counts = k.counts }
keeps_on s Word done k = k
keeps_on s Error done k = record { strata = k.strata; counts = k.counts }
keeps_on s Other done k = k

pub runs_on : (s : Dividing) (part : Part) (done : List ℕ) (later : List Part)
    → done ++ ((s.lines + lines_before (part ∷ later)) ∷ counts_of (part ∷ later))
    ≡ done_with s part done ++ (((part_taken s part).lines + lines_before later) ∷ counts_of later)
unfolding lines_before counts_of part_taken
runs_on s Stratum done later =
    let none : s.lines + 0 ≡ s.lines = omega arith in
    let zero : lines_before later ≡ 0 + lines_before later = omega arith in
    (λ i. done ++ (none i ∷ zero i ∷ counts_of later)) ∙ sym (append_assoc done (s.lines ∷ []) ((0 + lines_before later) ∷ counts_of later))
runs_on s Line done later =
    let one : s.lines + suc (lines_before later) ≡ (s.lines + 1) + lines_before later = omega arith in
    ap (λ (n : ℕ). done ++ (n ∷ counts_of later)) one
runs_on s Word done later = refl
runs_on s Error done later = refl
runs_on s Other done later = refl

-- whether an S is among the lines so far
pub opened_on : (s : Dividing) (part : Part) → opened_by part (ltb 0 s.strata) ≡ ltb 0 (part_taken s part).strata
unfolding part_taken
opened_on s Stratum = sym (lt-ltb 0 (s.strata + 1) (omega arith))
opened_on s Line = refl
opened_on s Word = refl
opened_on s Error = refl
opened_on s Other = refl

pub late_on : (s : Dividing) (part : Part) → late_by part s.late ≡ (part_taken s part).late
unfolding part_taken
late_on s Stratum = refl
late_on s Line = refl
late_on s Word = refl
late_on s Error = refl
late_on s Other = refl

pub few_on : (s : Dividing) (part : Part) → ((part_taken s part).strata ≤ s.strata + 1) × ((part_taken s part).lines ≤ s.lines + 1)
unfolding part_taken
few_on s Stratum = (omega arith, omega arith)
few_on s Line = (omega arith, omega arith)
few_on s Word = (omega arith, omega arith)
few_on s Error = (omega arith, omega arith)
few_on s Other = (omega arith, omega arith)

-- at the end the open one is the last
pub all_closed : (s : Dividing) (done counts : List ℕ) → Keeps s done → (n : ℕ) → n ∷ counts ≡ done ++ ((s.lines + 0) ∷ [])
    → (length counts ≡ s.strata) × (laid no_counts counts ≡ counts_with s)
all_closed s done counts k n e =
    let none : s.lines + 0 ≡ s.lines = omega arith in
    let same : counts ≡ drop 1 (done ++ (s.lines ∷ [])) = ap (drop 1) (e ∙ ap (λ (m : ℕ). done ++ (m ∷ [])) none) in
    (omega (arith, ap length e, length-append done ((s.lines + 0) ∷ []), k.strata), ap (laid no_counts) same ∙ sym (closes s done k))
