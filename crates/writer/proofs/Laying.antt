-- Bytes laid one after another, and what is left to lay. Assumes nothing.
use Prim.Native.Nat.{ℕ, zero, suc, ◌+◌, ◌^◌, ◌/◌, ◌%◌, ◌≤◌}
use mathlib.Core.Path.{◌≡◌, refl, ap, ap₂, sym, ◌∙◌}
use Rattle.std.proofs.Common.{append_assoc}
use mathlib.Core.List.{List, [], ◌∷◌, ◌++◌}
use native.Mathlib.Omega.{arith}
use lib.ListN.{length, take, drop, set, length-append, length-set}
use lib.Seq.{sets, length-sets, sets-eq, drop-drop}
use native.Mathlib.Nat.{div-div-eq-div-mul, pow-suc}
use borrow.Rule.Slice.PartMut.{put_mid}
use Rattle.std.specs.Int.{byte_at, bytes_low_first}
use Rattle.workfile.proofs.Numbers.{length_bytes}
use Rattle.workfile.specs.Numbers.{bytes}
use Rattle.workfile.specs.Promises.{over}
use Rattle.writer.specs.Parts.{lay, Laid}

lay_on : (l : List ℕ) (at at' : ℕ) (xs ys : List ℕ) → at' ≡ at + length xs → lay (lay l at xs) at' ys ≡ lay l at (xs ++ ys)
unfolding lay
lay_on l at at' [] ys e = ap (λ (i : ℕ). sets l i ys) (e ∙ omega arith)
lay_on l at at' (x ∷ xs) ys e = lay_on (set l at x) (suc at) at' xs ys (e ∙ omega arith)

pub length_lay : (l : List ℕ) (at : ℕ) (xs : List ℕ) → length (lay l at xs) ≡ length l
unfolding lay
length_lay l at xs = length-sets l at xs

pub lay_over : (l xs : List ℕ) → length xs ≤ length l → lay l 0 xs ≡ over xs l
unfolding lay
lay_over l xs h =
    let z : 0 + length xs ≡ length xs = omega arith in
    sets-eq xs l 0 (omega arith) ∙ ap (λ (i : ℕ). xs ++ drop i l) z

-- nothing, one byte first, and one part after another
pub laid_none : (l : List ℕ) (at : ℕ) → Laid l at [] l at
unfolding lay
laid_none l at = record { same = refl; ends = omega arith }

pub laid_on : {f g h xs ys : List ℕ} {at to next : ℕ} → Laid f at xs g to → Laid g to ys h next → Laid f at (xs ++ ys) h next
laid_on {f} {g} {h} {xs} {ys} {at} {to} p q = record {
  same = q.same ∙ ap (λ (l : List ℕ). lay l to ys) p.same ∙ lay_on f at to xs ys p.ends;
  ends = q.ends ∙ omega (arith, p.ends, length-append xs ys);
}

one_byte : (f : List ℕ) (at x : ℕ) → Laid f at (x ∷ []) (set f at x) (at + 1)
unfolding lay
one_byte f at x = record { same = refl; ends = refl }

pub laid_byte : {f g xs : List ℕ} {at x next : ℕ} → Laid (set f at x) (at + 1) xs g next → Laid f at (x ∷ xs) g next
laid_byte {f} {at} {x} p = laid_on (one_byte f at x) p

-- the file is as long as before
pub long : {f g xs : List ℕ} {at next : ℕ} → Laid f at xs g next → length g ≡ length f
long {f} {g} {xs} {at} p = ap length p.same ∙ length_lay f at xs

pub long_byte : (f : List ℕ) (i x : ℕ) {g xs : List ℕ} {at next : ℕ} → Laid (set f i x) at xs g next → length g ≡ length f
long_byte f i x p = long p ∙ length-set f i x

pub long_bytes : (f : List ℕ) (i x j y : ℕ) {g xs : List ℕ} {at next : ℕ} → Laid (set (set f i x) j y) at xs g next → length g ≡ length f
long_bytes f i x j y p = long_byte (set f i x) j y p ∙ length-set f i x

-- rest is still to be laid, from `to` on, of all that is laid from `at` on
pub record Left (file₀ : List ℕ) (at : ℕ) (all file : List ℕ) (to : ℕ) (rest : List ℕ) : Type 0 where
  pub ends : to + length rest ≡ at + length all
  pub long : length file ≡ length file₀
  pub same : lay file to rest ≡ lay file₀ at all

pub left_start : (file₀ : List ℕ) (at : ℕ) (all : List ℕ) → Left file₀ at all file₀ at all
left_start file₀ at all = record { ends = refl; long = refl; same = refl }

module _ {file₀ : List ℕ} {at : ℕ} {all file : List ℕ} {to : ℕ} {rest : List ℕ} (l : Left file₀ at all file to rest) where
  pub left_on : (xs ys : List ℕ) {file' : List ℕ} {to' : ℕ} → rest ≡ xs ++ ys → Laid file to xs file' to' → Left file₀ at all file' to' ys
  left_on xs ys {file'} {to'} e w =
      let n : length rest ≡ length xs + length ys = ap length e ∙ length-append xs ys in
      record {
        ends = omega (arith, l.ends, w.ends);
        long = long w ∙ l.long;
        same = ap (λ (f : List ℕ). lay f to' ys) w.same ∙ lay_on file to to' xs ys w.ends ∙ ap (lay file to) (sym e) ∙ l.same;
      }

  pub left_room : (xs ys : List ℕ) → rest ≡ xs ++ ys → to + length xs ≤ at + length all
  left_room xs ys e = let n : length rest ≡ length xs + length ys = ap length e ∙ length-append xs ys in omega (arith, l.ends)

  pub left_done : rest ≡ [] → Laid file₀ at all file to
  unfolding lay
  left_done e = record { same = sym (ap (lay file to) e) ∙ l.same; ends = let n : length rest ≡ 0 = ap length e in omega (arith, l.ends) }

-- the lowest bytes of a number
byte_of : (i x : ℕ) → byte_at i x ≡ x / 256 ^ i % 256
byte_of zero x = omega arith
byte_of (suc i) x = refl

low_bytes : (n i k x : ℕ) → n ≤ k → take n (bytes_low_first i k x) ≡ bytes n (x / 256 ^ i)
low_bytes zero i k x h = refl
low_bytes (suc n) i zero x h = absurd (omega arith)
low_bytes (suc n) i (suc k) x h =
    let next : x / 256 ^ suc i ≡ x / 256 ^ i / 256 = sym (div-div-eq-div-mul x (256 ^ i) 256 ∙ ap (λ (d : ℕ). x / d) (sym (pow-suc 256 i))) in
    ap₂ (λ (b : ℕ) (l : List ℕ). b ∷ l) (byte_of i x) (low_bytes n (suc i) k x (omega arith) ∙ ap (bytes n) next)

pub number_laid : (file : List ℕ) (at count number : ℕ) {k : ℕ} {part all : List ℕ} → k ≡ count → at + count ≤ length file → count ≤ 8
    → all ≡ bytes_low_first 0 8 number → part ≡ take count all → Laid file at (bytes count number) (put_mid at k file part) (at + count)
unfolding lay
number_laid file at count number {k} {part} wide room few whole is =
    let bs = bytes count number in
    let one : number / 256 ^ 0 ≡ number = omega arith in
    let same : part ≡ bs = is ∙ ap (take count) whole ∙ low_bytes count 0 8 number few ∙ ap (bytes count) one in
    let long : length bs ≡ count = length_bytes count number in
    let rest : drop k (drop at file) ≡ drop (at + length bs) file = ap (λ (n : ℕ). drop n (drop at file)) wide ∙ drop-drop count at file ∙ ap (λ (n : ℕ). drop (at + n) file) (sym long) in
    let joined : (take at file ++ bs) ++ drop (at + length bs) file ≡ take at file ++ (bs ++ drop (at + length bs) file) = simp append_assoc in
    record {
      same = ap₂ (λ (l r : List ℕ). take at file ++ (l ++ r)) same rest ∙ sym joined ∙ sym (sets-eq bs file at (omega arith));
      ends = omega arith;
    }
