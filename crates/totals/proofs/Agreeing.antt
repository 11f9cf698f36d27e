-- The totals of blocks of any size: where each stands, what a changed line and one more line make of them, and when a summary agrees. Assumes nothing.
use Prim.Native.Nat.{ℕ, zero, suc, ◌+◌, ◌*◌, ◌-◌, ◌/◌, ◌%◌, ◌≤◌, ◌<◌}
use mathlib.Core.Path.{◌≡◌, refl, sym, ap, subst, ◌∙◌}
use mathlib.Core.List.{List, [], ◌∷◌, ◌++◌}
use mathlib.Core.Logic.{◌↔◌, ⊎_elim}
use native.Mathlib.Omega.{arith}
use native.Mathlib.Nat.{zero-mul, suc-mul}
use lib.ListN.{length, get_or, take, drop, set, length-append, length-take, length-drop, length-set, drop_of_length-le, get_or-append}
use lib.Seq.{drop-drop, take-set-lt, take-set-le, drop-set-lt, drop-set-add, get_or-take, get_or-drop, take-append-le, drop-append-le, take_all, set_at, get_or_at, set-append_left, ext_get_or}
use Rattle.terms.specs.Numbers.{sum}
use Rattle.terms.proofs.Sums.{sum_append}
use Rattle.terms.proofs.Tests.{le_or_lt}
use Rattle.totals.specs.Summary.{blocks, block_from, totals_by, block_totals, in_use, summary_for, Agrees}

-- the sum of lines of which one is changed
pub sum_set : (l : List ℕ) (i v : ℕ) → i < length l → sum (set l i v) + get_or l i 0 ≡ sum l + v
sum_set [] i v h = absurd (omega arith)
sum_set (x ∷ l) zero v h = omega arith
sum_set (x ∷ l) (suc i) v h = omega (arith, sum_set l i v (omega arith))

module _ (k : ℕ) where
  pub totals_length : (n : ℕ) (l : List ℕ) → length (totals_by k n l) ≡ n
  totals_length zero l = refl
  totals_length (suc n) l = ap suc (totals_length n (drop k l))

  pub totals_at : (n : ℕ) (l : List ℕ) (b : ℕ) → b < n → get_or (totals_by k n l) b 0 ≡ sum (take k (drop (b * k) l))
  totals_at zero l b h = absurd (omega arith)
  totals_at (suc n) l zero h = ap (λ (m : ℕ). sum (take k (drop m l))) (sym (zero-mul k))
  totals_at (suc n) l (suc b) h =
      let e : k + b * k ≡ suc b * k = omega (arith, suc-mul b k) in
      totals_at n (drop k l) b (omega arith) ∙ ap (λ (m : List ℕ). sum (take k m)) (drop-drop (b * k) k l ∙ ap (λ (m : ℕ). drop m l) e)

  -- a changed line
  set_here : (n : ℕ) (l : List ℕ) (j v x : ℕ) → j < k → j < length l → x + get_or l j 0 ≡ sum (take k l) + v → totals_by k (suc n) (set l j v) ≡ set (totals_by k (suc n) l) 0 x
  set_here n l j v x h inside e =
      let within : j < length (take k l) = omega (arith, length-take k l) in
      let known = sum_set (take k l) j v within in
      let same : sum (take k (set l j v)) ≡ x = ap sum (take-set-lt k l j v h) ∙ omega (arith, known, get_or-take k l j 0 h) in
      ap (λ (y : ℕ). y ∷ totals_by k n (drop k (set l j v))) same ∙ ap (λ (m : List ℕ). x ∷ totals_by k n m) (drop-set-lt k l j v h)

  set_later : (n : ℕ) (l : List ℕ) (i v b x : ℕ) → totals_by k n (set (drop k l) i v) ≡ set (totals_by k n (drop k l)) b x →
      totals_by k (suc n) (set l (k + i) v) ≡ set (totals_by k (suc n) l) (suc b) x
  set_later n l i v b x e =
      ap (λ (m : List ℕ). sum m ∷ totals_by k n (drop k (set l (k + i) v))) (take-set-le k l (k + i) v (omega arith))
      ∙ ap (λ (m : List ℕ). sum (take k l) ∷ totals_by k n m) (drop-set-add k l i v)
      ∙ ap (λ (m : List ℕ). sum (take k l) ∷ m) e

  pub totals_set : (b n : ℕ) (l : List ℕ) (i j v x : ℕ) → b < n → i ≡ b * k + j → j < k → i < length l → x + get_or l i 0 ≡ get_or (totals_by k n l) b 0 + v →
      totals_by k n (set l i v) ≡ set (totals_by k n l) b x
  totals_set b zero l i j v x h at small inside e = absurd (omega arith)
  totals_set zero (suc n) l i j v x h at small inside e = set_here n l i v x (omega (arith, zero-mul k)) inside e
  totals_set (suc b) (suc n) l i j v x h at small inside e =
      let rest : i ≡ k + (i - k) = omega (arith, suc-mul b k) in
      let old : get_or (drop k l) (i - k) 0 ≡ get_or l i 0 = get_or-drop k l (i - k) 0 ∙ ap (λ (m : ℕ). get_or l m 0) (sym rest) in
      let later = totals_set b n (drop k l) (i - k) j v x (omega arith) (omega (arith, suc-mul b k)) small (omega (arith, length-drop k l, suc-mul b k)) (omega (arith, old)) in
      ap (λ (m : ℕ). totals_by k (suc n) (set l m v)) rest ∙ set_later n l (i - k) v b x later

  -- a line of 0 more changes no figure
  pub totals_zero : (n : ℕ) (l : List ℕ) → totals_by k n (l ++ (0 ∷ [])) ≡ totals_by k n l
  totals_zero zero l = refl
  totals_zero (suc n) l =
      ⊎_elim
      (λ (h : k ≤ length l).
      ap (λ (m : List ℕ). sum m ∷ totals_by k n (drop k (l ++ (0 ∷ [])))) (take-append-le k l (0 ∷ []) h)
      ∙ ap (λ (m : List ℕ). sum (take k l) ∷ totals_by k n m) (drop-append-le k l (0 ∷ []) h)
      ∙ ap (λ (m : List ℕ). sum (take k l) ∷ m) (totals_zero n (drop k l)))
      (λ (h : length l < k).
      let short : length l ≤ k = omega arith in
      let long : length (l ++ (0 ∷ [])) ≤ k = omega (arith, length-append l (0 ∷ [])) in
      let head : sum (take k (l ++ (0 ∷ []))) ≡ sum (take k l) =
      ap sum (take_all k (l ++ (0 ∷ [])) long) ∙ sum_append l (0 ∷ []) ∙ omega (arith, ap sum (take_all k l short)) in
      let tail : drop k (l ++ (0 ∷ [])) ≡ drop k l = drop_of_length-le (l ++ (0 ∷ [])) long ∙ sym (drop_of_length-le l short) in
      ap (λ (y : ℕ). y ∷ totals_by k n (drop k (l ++ (0 ∷ [])))) head ∙ ap (λ (m : List ℕ). sum (take k l) ∷ totals_by k n m) tail)
      (le_or_lt k (length l))

-- at the size of a block
pub totals_many : (n : ℕ) (l : List ℕ) → length (block_totals n l) ≡ n
unfolding block_totals
totals_many n l = totals_length 256 n l

pub line_set_lem : (n : ℕ) (l : List ℕ) (i v x : ℕ) → i / 256 < n → i < length l → x + get_or l i 0 ≡ get_or (block_totals n l) (i / 256) 0 + v →
    block_totals n (set l i v) ≡ set (block_totals n l) (i / 256) x
unfolding block_totals
line_set_lem n l i v x h inside e = totals_set 256 (i / 256) n l i (i % 256) v x h (omega arith) (omega arith) inside e

pub line_more : (n : ℕ) (l : List ℕ) (i v x : ℕ) → i / 256 < n → length l ≡ i → x ≡ get_or (block_totals n l) (i / 256) 0 + v →
    block_totals n (l ++ (v ∷ [])) ≡ set (block_totals n l) (i / 256) x
unfolding block_totals
line_more n l i v x h long e =
    let zeros = totals_zero 256 n l in
    let none : get_or (l ++ (0 ∷ [])) i 0 ≡ 0 = get_or_at l 0 [] 0 i long in
    let figure : get_or (totals_by 256 n (l ++ (0 ∷ []))) (i / 256) 0 ≡ get_or (totals_by 256 n l) (i / 256) 0 = ap (λ (m : List ℕ). get_or m (i / 256) 0) zeros in
    let put = totals_set 256 (i / 256) n (l ++ (0 ∷ [])) i (i % 256) v x h (omega arith) (omega arith) (omega (arith, length-append l (0 ∷ []))) (omega (arith, none, figure)) in
    ap (totals_by 256 n) (sym (set_at l 0 [] v i long)) ∙ put ∙ ap (λ (m : List ℕ). set m (i / 256) x) zeros

-- figures, then a grand total
module _ (figures : List ℕ) (many grand : ℕ) (long : length figures ≡ many) where
  pub last_at : get_or (figures ++ (grand ∷ [])) many 0 ≡ grand
  last_at = get_or_at figures grand [] 0 many long

  pub figure_at : (b : ℕ) → b < many → get_or (figures ++ (grand ∷ [])) b 0 ≡ get_or figures b 0
  figure_at b h = get_or-append figures (grand ∷ []) 0 b (omega arith)

  pub both_set : (b f g : ℕ) → b < many → set (set (figures ++ (grand ∷ [])) b f) many g ≡ set figures b f ++ (g ∷ [])
  both_set b f g h =
      ap (λ (m : List ℕ). set m many g) (set-append_left figures (grand ∷ []) b f (omega arith))
      ∙ set_at (set figures b f) grand [] g many (length-set figures b f ∙ long)

-- a summary agrees exactly where it is the one that building writes
module _ (room : List ℕ) (count : ℕ) where
  pub summary_long : length (summary_for room count) ≡ blocks (length room) + 1
  unfolding summary_for
  summary_long =
      length-append (block_totals (blocks (length room)) (in_use room count)) (sum (in_use room count) ∷ [])
      ∙ ap (λ (n : ℕ). n + 1) (totals_many (blocks (length room)) (in_use room count))

  pub built_agrees : Agrees room count (summary_for room count)
  unfolding summary_for block_totals block_from
  built_agrees =
      let n = blocks (length room) in
      let l = in_use room count in
      record {
        long = summary_long;
        figures = λ b h. figure_at (totals_by 256 n l) n (sum l) (totals_length 256 n l) b h ∙ totals_at 256 n l b h;
        grand = last_at (totals_by 256 n l) n (sum l) (totals_length 256 n l);
      }

  pub agrees_one : (summary : List ℕ) → Agrees room count summary → summary ≡ summary_for room count
  agrees_one summary a =
      let b = built_agrees in
      ext_get_or 0 summary (summary_for room count) (a.long ∙ sym b.long)
      (λ i h. ⊎_elim (λ (q : blocks (length room) ≤ i). let e : i ≡ blocks (length room) = omega (arith, a.long) in
      ap (λ (m : ℕ). get_or summary m 0) e ∙ a.grand ∙ sym b.grand ∙ ap (λ (m : ℕ). get_or (summary_for room count) m 0) (sym e))
      (λ (q : i < blocks (length room)). a.figures i q ∙ sym (b.figures i q)) (le_or_lt (blocks (length room)) i))

  pub agrees_exactly : (summary : List ℕ) → Agrees room count summary ↔ (summary ≡ summary_for room count)
  agrees_exactly summary = (agrees_one summary, λ e. subst (λ (s : List ℕ). Agrees room count s) (sym e) built_agrees)
