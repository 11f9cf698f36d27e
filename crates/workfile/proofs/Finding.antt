-- The numbers of a file as sums of their bytes, and the record at a place by its kind and the bytes left. Assumes nothing.
use Prim.Native.Nat.{ℕ, ◌+◌, ◌-◌, ◌*◌, ◌<◌, ◌≤◌}
use mathlib.Core.Path.{◌≡◌, refl, ap, ap₂, sym, ◌∙◌}
use mathlib.Core.Bool.{Bool, true, false}
use mathlib.Core.List.{List}
use native.Mathlib.Omega.{arith}
use native.Mathlib.Nat.{add_assoc, add-zero}
use lib.ListN.{length, get_or, drop, length-drop}
use lib.Seq.{drop-drop, get_or-drop}
use borrow.Author.Tests.{le-leb, lt-leb, ne_eqb}
use Rattle.terms.specs.Numbers.{pick}
use Rattle.workfile.specs.Numbers.{little_endian}
use Rattle.workfile.specs.Content.{error_kind}
use Rattle.workfile.specs.Decode.{record_of, record_at}
use Rattle.workfile.specs.declared.FileRecord.TheVariants.{Word, Value, ErrorOf, End, Nothing}

pub of_four : (f : List ℕ) (at : ℕ) → little_endian 4 (drop at f) ≡ get_or f at 0 + 0x100 * get_or f (at + 1) 0 + 0x10000 * get_or f (at + 2) 0 + 0x1000000 * get_or f (at + 3) 0
unfolding little_endian
of_four f at = simp (drop-drop, get_or-drop, add_assoc, add-zero) (omega arith)

pub of_eight : (f : List ℕ) (at : ℕ)
    → little_endian 8 (drop at f)
    ≡ get_or f at 0 + 0x100 * get_or f (at + 1) 0 + 0x10000 * get_or f (at + 2) 0 + 0x1000000 * get_or f (at + 3) 0
    + 0x100000000 * get_or f (at + 4) 0 + 0x10000000000 * get_or f (at + 5) 0 + 0x1000000000000 * get_or f (at + 6) 0 + 0x100000000000000 * get_or f (at + 7) 0
unfolding little_endian
of_eight f at = simp (drop-drop, get_or-drop, add_assoc, add-zero) (omega arith)

either_way : {A : Type 0} (b : Bool) (x : A) → pick b x x ≡ x
either_way true x = refl
either_way false x = refl

module _ (f : List ℕ) (at : ℕ) where
  kind_at : get_or (drop at f) 0 0 ≡ get_or f at 0
  kind_at = get_or-drop at f 0 0 ∙ ap (λ (i : ℕ). get_or f i 0) (add-zero at)

  pub no_nine : length f - at < 9 → Nothing ≡ record_at f at
  unfolding record_of record_at
  no_nine h = rw (length-drop, lt-leb 9 (length f - at) h, lt-leb 13 (length f - at) (omega arith)) (sym (simp either_way))

  pub no_thirteen : length f - at < 13 → (get_or f at 0 ≡ 0x57 → ⊥) → (get_or f at 0 ≡ 0x4C → ⊥) → Nothing ≡ record_at f at
  unfolding record_of record_at
  no_thirteen h p q = rw (kind_at, ne_eqb _ 0x57 p, ne_eqb _ 0x4C q, length-drop, lt-leb 13 (length f - at) h) (sym (simp either_way))

  pub no_kind : (get_or f at 0 ≡ 0x57 → ⊥) → (get_or f at 0 ≡ 0x4C → ⊥) → (get_or f at 0 ≡ 0x45 → ⊥) → (get_or f at 0 ≡ 0x55 → ⊥) → (get_or f at 0 ≡ 0x5A → ⊥) → Nothing ≡ record_at f at
  unfolding record_of record_at
  no_kind p q r u s = rw (kind_at, ne_eqb _ 0x57 p, ne_eqb _ 0x4C q, ne_eqb _ 0x45 r, ne_eqb _ 0x55 u, ne_eqb _ 0x5A s)

  pub word_at : (w : ℕ) → get_or f at 0 ≡ 0x57 → 9 ≤ length f - at → w ≡ little_endian 8 (drop (at + 1) f) → Word w ≡ record_at f at
  unfolding record_of record_at
  word_at w k h e = rw (kind_at, k, length-drop, le-leb 9 (length f - at) h, drop-drop) (ap Word e)

  pub value_at : (v : ℕ) → get_or f at 0 ≡ 0x4C → 9 ≤ length f - at → v ≡ little_endian 8 (drop (at + 1) f) → Value v ≡ record_at f at
  unfolding record_of record_at
  value_at v k h e = rw (kind_at, k, length-drop, le-leb 9 (length f - at) h, drop-drop) (ap Value e)

  pub error_at : (u : Bool) (l n : ℕ) → get_or f at 0 ≡ error_kind u → 13 ≤ length f - at → l ≡ little_endian 4 (drop (at + 1) f) → n ≡ little_endian 8 (drop (at + 5) f) → ErrorOf u l n ≡ record_at f at
  unfolding record_of record_at
  error_at false l n k h p q = rw (kind_at, k, length-drop, le-leb 13 (length f - at) h, drop-drop 1 at f, drop-drop 5 at f) (ap₂ (ErrorOf false) p q)
  error_at true l n k h p q = rw (kind_at, k, length-drop, le-leb 13 (length f - at) h, drop-drop 1 at f, drop-drop 5 at f) (ap₂ (ErrorOf true) p q)

  pub end_at : (n s : ℕ) → get_or f at 0 ≡ 0x5A → 13 ≤ length f - at → n ≡ little_endian 4 (drop (at + 1) f) → s ≡ little_endian 8 (drop (at + 5) f) → End n s ≡ record_at f at
  unfolding record_of record_at
  end_at n s k h p q = rw (kind_at, k, length-drop, le-leb 13 (length f - at) h, drop-drop 1 at f, drop-drop 5 at f) (ap₂ End p q)
