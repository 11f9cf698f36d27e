-- A list in an array: past its last entry stands nothing that an answer depends on. Assumes nothing.
use mathlib.Core.Path.{◌≡◌, refl, sym, ◌∙◌}
use mathlib.Core.List.{List, [], ◌∷◌, ◌++◌}
use Prim.Native.Nat.{ℕ, zero, suc, ◌-◌}
use lib.ListN.{length, get_or, drop, replicate}
use Rattle.terms.specs.Numbers.{pad_to}
use Rattle.strata.specs.Strata.{row_of, rows_of}

module _ {A : Type 0} (none : A) where
  pad_at : (l : List A) (k h : ℕ) → get_or (l ++ replicate k none) h none ≡ get_or l h none
  pad_at [] zero h = refl
  pad_at [] (suc k) zero = refl
  pad_at [] (suc k) (suc h) = pad_at [] k h
  pad_at (x ∷ l) k zero = refl
  pad_at (x ∷ l) k (suc h) = pad_at l k h

  pub padded_at : (m : ℕ) (l : List A) (h : ℕ) → get_or (pad_to m none l) h none ≡ get_or l h none
  unfolding pad_to
  padded_at m l h = pad_at l (m - length l) h

  -- two lists with the same entries, whatever their lengths
  abbrev pub Alike : List A → List A → Type 0
  Alike l m = (h : ℕ) → get_or l h none ≡ get_or m h none

  pub later_at : (l : List A) (h : ℕ) → get_or (drop 1 l) h none ≡ get_or l (suc h) none
  later_at [] h = refl
  later_at (x ∷ l) h = refl

  pub alike_later : (l m : List A) → Alike l m → Alike (drop 1 l) (drop 1 m)
  alike_later l m same h = later_at l h ∙ same (suc h) ∙ sym (later_at m h)

-- the rows read the draws by their entries
pub rows_alike : (parts : List (List ℕ)) (draws others : List ℕ) → Alike 0 draws others → rows_of parts draws ≡ rows_of parts others
unfolding rows_of
rows_alike [] draws others same = refl
rows_alike (part ∷ parts) draws others same = λ i. row_of part (same 0 i) ∷ rows_alike parts (drop 1 draws) (drop 1 others) (alike_later 0 draws others same) i
