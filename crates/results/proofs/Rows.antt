-- The strata's rows, shown one after another. Assumes nothing.
use mathlib.Core.Path.{◌≡◌, refl, sym, ap, ◌∙◌}
use mathlib.Core.List.{List, [], ◌∷◌, ◌++◌, map, append-nil}
use Prim.Native.Nat.{ℕ, ◌+◌, ◌≤◌, ◌<◌}
use native.Mathlib.Numerals.{add-one}
use native.Mathlib.Omega.{arith}
use lib.ListN.{length, get_or, take, drop, set, length-set, drop_of_length-le}
use lib.Seq.{take-suc-set, take_all, append_snoc, drop-cons}

-- the rows before h are shown, and those from h on are still to come
pub record Showing {A B : Type 0} (f : A → B) (rows : List A) (out : List B) (h : ℕ) : Type 0 where
  pub strata : length rows ≡ 32
  pub long : length out ≡ 32
  pub written : take h out ++ map f (drop h rows) ≡ map f rows

module _ {A B : Type 0} (f : A → B) (none : A) {rows : List A} where
  pub showing_none : {out : List B} → length rows ≡ 32 → length out ≡ 32 → Showing f rows out 0
  showing_none strata long = record { strata = strata; long = long; written = refl }

  module _ {out : List B} {h : ℕ} (at : Showing f rows out h) where
    pub showing_next : {x : B} → h < 32 → x ≡ f (get_or rows h none) → Showing f rows (set out h x) (h + 1)
    showing_next {x} room e =
        let s = at.strata in
        let l = at.long in
        let inside : h < length out = omega arith in
        let first : take (h + 1) (set out h x) ≡ take h out ++ (x ∷ []) = ap (λ (k : ℕ). take k (set out h x)) (add-one h) ∙ take-suc-set out h x inside in
        let on : map f (drop h rows) ≡ f (get_or rows h none) ∷ map f (drop (h + 1) rows) =
        ap (map f) (drop-cons rows h none (omega arith) ∙ ap (λ (k : ℕ). get_or rows h none ∷ drop k rows) (sym (add-one h)))
        in
        record {
          strata = at.strata;
          long = length-set out h x ∙ at.long;
          written =
              ap (λ (l : List B). l ++ map f (drop (h + 1) rows)) first ∙ append_snoc (take h out) x (map f (drop (h + 1) rows))
              ∙ ap (λ (y : B). take h out ++ (y ∷ map f (drop (h + 1) rows))) e ∙ ap (λ (l : List B). take h out ++ l) (sym on) ∙ at.written;
        }

    pub showing_end : 32 ≤ h → out ≡ map f rows
    showing_end end =
        let s = at.strata in
        let l = at.long in
        let past : drop h rows ≡ [] = drop_of_length-le rows {i = h} (omega arith) in
        sym (take_all h out (omega arith)) ∙ sym (append-nil (take h out)) ∙ ap (λ (l : List A). take h out ++ map f l) (sym past) ∙ at.written
