-- The rules as facts: what `fits` tests, and which record is Z. Assumes nothing.
use Prim.Native.Nat.{ℕ, ◌≤◌}
use mathlib.Core.Path.{◌≡◌, refl, sym}
use mathlib.Core.Bool.{Bool, true, false, ◌&&◌, not}
use native.Mathlib.Omega.{arith}
use borrow.Author.Tests.{le-leb, lt-ltb, eq-eqb, leb-true, ltb-true, eqb-true}
use Rattle.workfile.specs.Decode.{fits, is_end, size, reads_on}
use Rattle.workfile.specs.Rules.{Rule}
use Rattle.workfile.specs.declared.Tally.{Tally}
use Rattle.workfile.specs.declared.FileRecord.{FileRecord}
use Rattle.workfile.specs.declared.FileRecord.TheVariants.{Word, Value, ErrorOf, End, Nothing}

pub both : {A B : Type 0} (a b : Bool) → (a ≡ true → A) → (b ≡ true → B) → (a && b) ≡ true → A × B
both true b f g e = (f refl, g e)
both false b f g e = absurd (let z : ◌≡◌ {A = ℕ} 0 1 = cc in omega arith)

pub and_true : (a b : Bool) → a ≡ true → b ≡ true → (a && b) ≡ true
and_true a b p q = rw (p, q)

pub rule : (t : Tally) (r : FileRecord) → fits t r ≡ true → Rule t r
unfolding fits
rule t (Word w) e = both _ _ (eqb-true _ _) (ltb-true _ _) e
rule t (Value v) e = both _ _ (eqb-true _ _) (both _ _ (ltb-true _ _) (ltb-true _ _)) e
rule t (ErrorOf u l n) e = both _ _ (leb-true _ _) (both _ _ (ltb-true _ _) (both _ _ (ltb-true _ _) (leb-true _ _))) e
rule t (End n s) e = both _ _ (eqb-true _ _) (eqb-true _ _) e
rule t Nothing e = let z : ◌≡◌ {A = ℕ} 0 1 = cc in omega arith

pub fitted : (t : Tally) (r : FileRecord) → Rule t r → fits t r ≡ true
unfolding fits
fitted t (Word w) h = and_true _ _ (eq-eqb _ _ h.0) (lt-ltb _ _ h.1)
fitted t (Value v) h = and_true _ _ (eq-eqb _ _ h.0) (and_true _ _ (lt-ltb _ _ h.1.0) (lt-ltb _ _ h.1.1))
fitted t (ErrorOf u l n) h = and_true _ _ (le-leb _ _ h.0) (and_true _ _ (lt-ltb _ _ h.1.0) (and_true _ _ (lt-ltb _ _ h.1.1.0) (le-leb _ _ h.1.1.1)))
fitted t (End n s) h = and_true _ _ (eq-eqb _ _ h.0) (eq-eqb _ _ h.1)
fitted t Nothing h = absurd h

-- a record that the rules allow and that does not go on is Z
pub is_last : (t : Tally) (r : FileRecord) → reads_on t r ≡ false → fits t r ≡ true → is_end r ≡ true
is_last t r g f = go (is_end r) (rw f at g)
  where
    go : (b : Bool) → not b ≡ false → b ≡ true
    go true e = refl
    go false e = sym e

-- Z, with its count and its sum
pub is_end_lem : (r : FileRecord) → is_end r ≡ true → (n : ℕ) × (s : ℕ) × (r ≡ End n s)
is_end_lem (Word w) e = absurd (let z : ◌≡◌ {A = ℕ} 0 1 = cc in omega arith)
is_end_lem (Value v) e = absurd (let z : ◌≡◌ {A = ℕ} 0 1 = cc in omega arith)
is_end_lem (ErrorOf u l n) e = absurd (let z : ◌≡◌ {A = ℕ} 0 1 = cc in omega arith)
is_end_lem (End n s) e = (n, s, refl)
is_end_lem Nothing e = absurd (let z : ◌≡◌ {A = ℕ} 0 1 = cc in omega arith)

-- a record that the rules allow has bytes
pub some_size : (t : Tally) (r : FileRecord) → Rule t r → 9 ≤ size r
some_size t (Word w) h = omega arith
some_size t (Value v) h = omega arith
some_size t (ErrorOf u l n) h = omega arith
some_size t (End n s) h = omega arith
some_size t Nothing h = absurd h
