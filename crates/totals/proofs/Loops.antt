-- One turn of each loop over blocks and lines, over fresh variables. Assumes nothing.
use Prim.Native.Nat.{ℕ, suc, ◌+◌, ◌*◌, ◌-◌, ◌^◌, ◌≤◌, ◌<◌, min}
use mathlib.Core.Path.{◌≡◌, refl, sym, ap, ◌∙◌}
use mathlib.Core.List.{List, [], ◌∷◌, ◌++◌, append_assoc, append-nil}
use mathlib.Core.Logic.{⊎_elim}
use native.Mathlib.Omega.{arith}
use native.Mathlib.Numerals.{add-one}
use borrow.Author.Tests.{lt-ltb, le-ltb, eq-eqb, ne_eqb}
use lib.ListN.{length, get_or, take, drop, set, length-set, length-take, length-drop, length-append, take-append-drop, drop_of_length-le}
use lib.Seq.{drop-cons, drop-drop, take-suc-set, take_all, take_at, set_split, length-take-le}
use Rattle.std.proofs.lemmas.List.{get_or-take}
use Rattle.terms.specs.Outcome.{Outcome, accepted, refused}
use Rattle.terms.specs.Numbers.{sum}
use Rattle.terms.proofs.Sums.{sum_append}
use Rattle.terms.proofs.Tests.{le_or_lt}
use Rattle.std.specs.Prelude.{Some, None}
use Rattle.totals.specs.Summary.{block_from, totals_by, block_totals, Fillable}
use Rattle.totals.specs.Lookup.{line_within, block_by, block_in}
use Rattle.totals.specs.Comparison.{first_wrong}

-- the part that is lent is a block's lines
pub block_lent : (l : List ℕ) (from start end : ℕ) → start ≡ min from (length l) → end ≡ min (length l) (start + 256) → take (end - start) (drop start l) ≡ block_from from l
unfolding block_from
block_lent l from start end s e =
    ⊎_elim
    (λ (h : from ≤ length l).
    let here : start ≡ from = omega arith in
    let whole : take (end - start) (drop start l) ≡ take 256 (drop start l) =
    ⊎_elim
    (λ (p : start + 256 ≤ length l). let all : end - start ≡ 256 = omega arith in ap (λ (n : ℕ). take n (drop start l)) all)
    (λ (p : length l < start + 256).
    let short : length (drop start l) ≤ 256 = omega (arith, length-drop start l) in
    let enough : length (drop start l) ≤ end - start = omega (arith, length-drop start l) in
    take_all (end - start) (drop start l) enough ∙ sym (take_all 256 (drop start l) short))
    (le_or_lt (start + 256) (length l)) in
    whole ∙ ap (λ (n : ℕ). take 256 (drop n l)) here)
    (λ (h : length l < from).
    let none : end - start ≡ 0 = omega arith in
    let past : drop from l ≡ [] = drop_of_length-le l (omega arith) in
    ap (λ (n : ℕ). take n (drop start l)) none ∙ sym (ap (take 256) past))
    (le_or_lt from (length l))

pub sum_take : (n : ℕ) (l : List ℕ) → sum (take n l) + sum (drop n l) ≡ sum l
sum_take n l = sym (sum_append (take n l) (drop n l)) ∙ ap sum (take-append-drop n l)

-- a block's total is no more than that of all lines
pub block_small : (from : ℕ) (l : List ℕ) → sum (block_from from l) ≤ sum l
unfolding block_from
block_small from l = omega (arith, sum_take 256 (drop from l), sum_take from l)

-- and each of its lines is one of them
block_long : (from : ℕ) (l : List ℕ) → length (block_from from l) ≡ min 256 (length l - from)
unfolding block_from
block_long from l = length-take 256 (drop from l) ∙ ap (min 256) (length-drop from l)

pub block_inside : (from i : ℕ) (l m : List ℕ) → m ≡ block_from from l → i < length m → from + i < length l
block_inside from i l m e h = omega (arith, ap length e, block_long from l)

-- adding up values: the total and what is left of them are their total
pub record Adding (m : List ℕ) (total i : ℕ) : Type 0 where
  pub added : total + sum (drop i m) ≡ sum m
  pub small : sum m < 2 ^ 64

pub adding_none : (from : ℕ) (l m : List ℕ) → m ≡ block_from from l → sum l < 2 ^ 64 → Adding m 0 0
adding_none from l m e small = record { added = omega arith; small = omega (arith, ap sum e, block_small from l) }

module _ {m : List ℕ} {total i : ℕ} (at : Adding m total i) where
  pub adding_end : (from : ℕ) (l : List ℕ) → m ≡ block_from from l → length m ≤ i → total ≡ sum (block_from from l)
  adding_end from l e h = omega (arith, at.added, ap sum (drop_of_length-le m h), ap sum e)

  module _ (h : i < length m) where
    pub adding_fits : total + get_or m i 0 < 2 ^ 64
    adding_fits = omega (arith, at.added, at.small, ap sum (drop-cons m i 0 h))

    pub adding_more : Adding m (total + get_or m i 0) (i + 1)
    adding_more = record { added = rw (add-one) (omega (arith, at.added, ap sum (drop-cons m i 0 h))); small = at.small }

-- looking for a line: from here on what is found is what is found from the block's first line on
pub record Looking (m : List ℕ) (block from cent i rest : ℕ) : Type 0 where
  pub finds : line_within block (from + i) rest (drop i m) ≡ line_within block from cent m

pub looking_first : {m : List ℕ} {block from cent : ℕ} → Looking m block from cent 0 cent
looking_first {m} {block} {from} {cent} = let same : from + 0 ≡ from = omega arith in record { finds = ap (λ (n : ℕ). line_within block n cent m) same }

module _ {m : List ℕ} {block from cent i rest : ℕ} (at : Looking m block from cent i rest) (l : List ℕ) (e : m ≡ block_from from l) where
  pub looking_end : length m ≤ i → refused 31 block ≡ line_within block from cent (block_from from l)
  unfolding line_within
  looking_end h = sym (ap (line_within block (from + i) rest) (drop_of_length-le m h)) ∙ at.finds ∙ ap (line_within block from cent) e

  module _ (h : i < length m) where
    pub looking_here : rest < get_or m i 0 → accepted (from + i) ≡ line_within block from cent (block_from from l)
    unfolding line_within
    looking_here p =
        let here : line_within block (from + i) rest (drop i m) ≡ accepted (from + i) = ap (line_within block (from + i) rest) (drop-cons m i 0 h) ∙ simp (lt-ltb _ _ p) in
        sym here ∙ at.finds ∙ ap (line_within block from cent) e

pub looking_more : {m : List ℕ} {block from cent i rest : ℕ} → Looking m block from cent i rest → i < length m → get_or m i 0 ≤ rest → Looking m block from cent (i + 1) (rest - get_or m i 0)
unfolding line_within
looking_more {m} {block} {from} {cent} {i} {rest} at h p =
    let here : line_within block (from + i) rest (drop i m) ≡ line_within block (suc (from + i)) (rest - get_or m i 0) (drop (suc i) m) =
    ap (line_within block (from + i) rest) (drop-cons m i 0 h) ∙ simp (le-ltb _ _ p) in
    let next : from + (i + 1) ≡ suc (from + i) = omega arith in
    record { finds = (λ j. line_within block (next j) (rest - get_or m i 0) (drop (add-one i j) m)) ∙ sym here ∙ at.finds }

-- the lines from the next block on
next_lines : (lines : List ℕ) (block : ℕ) → drop 256 (drop (block * 256) lines) ≡ drop ((block + 1) * 256) lines
next_lines lines block = let e : block * 256 + 256 ≡ (block + 1) * 256 = omega arith in drop-drop 256 (block * 256) lines ∙ ap (λ (n : ℕ). drop n lines) e

-- the totals of one block more, and of none
totals_more : (many : ℕ) (lines : List ℕ) (block : ℕ) → block < many →
    block_totals (many - block) (drop (block * 256) lines) ≡ sum (block_from (block * 256) lines) ∷ block_totals (many - (block + 1)) (drop ((block + 1) * 256) lines)
unfolding block_totals block_from
totals_more many lines block h =
    let e : many - block ≡ suc (many - (block + 1)) = omega arith in
    ap (λ (n : ℕ). totals_by 256 n (drop (block * 256) lines)) e
    ∙ ap (λ (l : List ℕ). sum (take 256 (drop (block * 256) lines)) ∷ totals_by 256 (many - (block + 1)) l) (next_lines lines block)

totals_none : (many : ℕ) (lines : List ℕ) (block : ℕ) → many ≤ block → block_totals (many - block) (drop (block * 256) lines) ≡ []
unfolding block_totals
totals_none many lines block h = let e : many - block ≡ 0 = omega arith in ap (λ (n : ℕ). totals_by 256 n (drop (block * 256) lines)) e

-- building: the figures before a block are written, those from it on are to come
pub record Building (lines : List ℕ) (many : ℕ) (figures : List ℕ) (block : ℕ) : Type 0 where
  pub long : length figures ≡ many
  pub whole : take block figures ++ block_totals (many - block) (drop (block * 256) lines) ≡ block_totals many lines

pub building_none : {lines : List ℕ} {many : ℕ} {figures : List ℕ} → length figures ≡ many → Building lines many figures 0
building_none {lines} {many} long =
    let all : many - 0 ≡ many = omega arith in
    record { long = long; whole = ap (λ (n : ℕ). block_totals n lines) all }

module _ {lines : List ℕ} {many : ℕ} {figures : List ℕ} {block : ℕ} (at : Building lines many figures block) where
  pub building_more : {x : ℕ} → block < many → x ≡ sum (block_from (block * 256) lines) → Building lines many (set figures block x) (block + 1)
  building_more {x} h e =
      let inside : block < length figures = omega (arith, at.long) in
      let later = block_totals (many - (block + 1)) (drop ((block + 1) * 256) lines) in
      let front : take (block + 1) (set figures block x) ≡ take block figures ++ (x ∷ []) = rw (add-one) (take-suc-set figures block x inside) in
      record {
        long = length-set figures block x ∙ at.long;
        whole =
            ap (λ (l : List ℕ). l ++ later) front
            ∙ append_assoc (take block figures) (x ∷ []) later
            ∙ ap (λ (y : ℕ). take block figures ++ (y ∷ later)) e
            ∙ ap (λ (l : List ℕ). take block figures ++ l) (sym (totals_more many lines block h))
            ∙ at.whole;
      }

  building_end : many ≤ block → figures ≡ block_totals many lines
  building_end h =
      sym (take_all block figures (omega (arith, at.long)))
      ∙ sym (append-nil (take block figures)) ∙ ap (λ (l : List ℕ). take block figures ++ l) (sym (totals_none many lines block h)) ∙ at.whole

  -- then the grand total behind them
  pub building_last : (summary : List ℕ) (total : ℕ) → many ≤ block → length summary ≡ many + 1 →
      set (figures ++ drop many summary) many total ≡ block_totals many lines ++ (total ∷ [])
  building_last summary total h long =
      let all : length (figures ++ drop many summary) ≡ many + 1 = omega (arith, length-append figures (drop many summary), length-drop many summary, at.long) in
      let past : length (figures ++ drop many summary) ≤ suc many = omega arith in
      let none : drop (suc many) (figures ++ drop many summary) ≡ [] = drop_of_length-le (figures ++ drop many summary) past in
      set_split (figures ++ drop many summary) many total (omega (arith, all))
      ∙ ap (λ (l : List ℕ). take many (figures ++ drop many summary) ++ (total ∷ l)) none
      ∙ ap (λ (l : List ℕ). l ++ (total ∷ [])) (take_at figures (drop many summary) many at.long ∙ building_end h)

-- comparing: from here on what is found is what is found from the first block on
pub record Comparing (lines : List ℕ) (many total : ℕ) (summary : List ℕ) (block : ℕ) : Type 0 where
  pub within : block ≤ many
  pub fits : length summary ≡ many + 1
  pub finds : first_wrong block (block_totals (many - block) (drop (block * 256) lines) ++ (total ∷ [])) (drop block summary) ≡ first_wrong 0 (block_totals many lines ++ (total ∷ [])) summary

pub comparing_first : {lines : List ℕ} {many total : ℕ} {summary : List ℕ} → Fillable lines many summary → Comparing lines many total summary 0
comparing_first {lines} {many} {total} {summary} room =
    let all : many - 0 ≡ many = omega arith in
    record { within = omega arith; fits = room.fits; finds = ap (λ (n : ℕ). first_wrong 0 (block_totals n lines ++ (total ∷ [])) summary) all }

module _ {lines : List ℕ} {many total : ℕ} {summary : List ℕ} {block : ℕ} (at : Comparing lines many total summary block) where
  figures_long : length (take many summary) ≡ many
  figures_long = length-take-le many summary (omega (arith, at.fits))

  module _ {right : ℕ} (inside : block < length (take many summary)) (e : right ≡ sum (block_from (block * 256) lines)) where
    h : block < many
    h = omega (arith, inside, figures_long)

    figure : get_or (take many summary) block 0 ≡ get_or summary block 0
    figure = get_or-take many summary block 0 h

    here : first_wrong block (block_totals (many - block) (drop (block * 256) lines) ++ (total ∷ [])) (drop block summary)
        ≡ first_wrong block (right ∷ (block_totals (many - (block + 1)) (drop ((block + 1) * 256) lines) ++ (total ∷ []))) (get_or (take many summary) block 0 ∷ drop (block + 1) summary)
    here =
        let later = block_totals (many - (block + 1)) (drop ((block + 1) * 256) lines) in
        ap (λ (l : List ℕ). first_wrong block (l ++ (total ∷ [])) (drop block summary)) (totals_more many lines block h ∙ ap (λ (x : ℕ). x ∷ later) (sym e))
        ∙ ap (first_wrong block (right ∷ (later ++ (total ∷ [])))) (rw (add-one, figure) (drop-cons summary block 0 (omega (arith, h, at.fits))))

    pub comparing_wrong : (get_or (take many summary) block 0 ≡ right → ⊥) → Some block ≡ first_wrong 0 (block_totals many lines ++ (total ∷ [])) summary
    unfolding first_wrong
    comparing_wrong n = sym (here ∙ simp (ne_eqb _ _ n)) ∙ at.finds

    pub comparing_more : get_or (take many summary) block 0 ≡ right → Comparing lines many total summary (block + 1)
    unfolding first_wrong
    comparing_more q = record { within = omega (arith, h); fits = at.fits; finds = sym (here ∙ simp (eq-eqb _ _ q, add-one)) ∙ at.finds }

  module _ (past : length (take many summary) ≤ block) where
    all : many ≤ block
    all = omega (arith, past, figures_long)

    last : first_wrong block (block_totals (many - block) (drop (block * 256) lines) ++ (total ∷ [])) (drop block summary)
        ≡ first_wrong many (total ∷ []) (get_or summary many 0 ∷ drop (suc many) summary)
    last =
        let same : block ≡ many = omega (arith, all, at.within) in
        let inside : many < length summary = omega (arith, at.fits) in
        ap (λ (l : List ℕ). first_wrong block (l ++ (total ∷ [])) (drop block summary)) (totals_none many lines block all)
        ∙ ap (λ (b : ℕ). first_wrong b (total ∷ []) (drop b summary)) same
        ∙ ap (first_wrong many (total ∷ [])) (drop-cons summary many 0 inside)

    pub comparing_last : (get_or summary many 0 ≡ total → ⊥) → Some many ≡ first_wrong 0 (block_totals many lines ++ (total ∷ [])) summary
    unfolding first_wrong
    comparing_last n = sym (last ∙ simp (ne_eqb _ _ n)) ∙ at.finds

    pub comparing_right : get_or summary many 0 ≡ total → None ≡ first_wrong 0 (block_totals many lines ++ (total ∷ [])) summary
    unfolding first_wrong
    comparing_right q = sym (last ∙ simp (eq-eqb _ _ q)) ∙ at.finds

-- going through the blocks: from here on what is found is what is found from the first block on
pub record Going (lines figures : List ℕ) (cent block rest : ℕ) : Type 0 where
  pub within : block ≤ length figures
  pub few : length figures ≤ 2 ^ 56
  pub finds : block_in block rest (drop block figures) (drop (block * 256) lines) ≡ block_in 0 cent figures lines

pub going_first : {lines figures : List ℕ} {cent : ℕ} → length figures ≤ 2 ^ 56 → Going lines figures cent 0 cent
going_first few = record { within = omega arith; few = few; finds = refl }

module _ {lines figures : List ℕ} {cent block rest : ℕ} (at : Going lines figures cent block rest) where
  pub going_end : length figures ≤ block → refused 31 block ≡ block_in 0 cent figures lines
  unfolding block_in
  going_end h = sym (ap (λ (l : List ℕ). block_by 256 block rest l (drop (block * 256) lines)) (drop_of_length-le figures h)) ∙ at.finds

  module _ (h : block < length figures) where
    open_block : drop block figures ≡ get_or figures block 0 ∷ drop (block + 1) figures
    open_block = rw (add-one) (drop-cons figures block 0 h)

    pub going_here : {o : Outcome ℕ} → rest < get_or figures block 0 → o ≡ line_within block (block * 256) rest (block_from (block * 256) lines) → o ≡ block_in 0 cent figures lines
    unfolding block_in block_from
    going_here l e =
        let here : block_by 256 block rest (drop block figures) (drop (block * 256) lines) ≡ line_within block (block * 256) rest (take 256 (drop (block * 256) lines)) =
        ap (λ (f : List ℕ). block_by 256 block rest f (drop (block * 256) lines)) open_block ∙ simp (lt-ltb _ _ l) in
        e ∙ sym here ∙ at.finds

    pub going_more : get_or figures block 0 ≤ rest → Going lines figures cent (block + 1) (rest - get_or figures block 0)
    unfolding block_in
    going_more l =
        let here : block_by 256 block rest (drop block figures) (drop (block * 256) lines)
        ≡ block_by 256 (block + 1) (rest - get_or figures block 0) (drop (block + 1) figures) (drop ((block + 1) * 256) lines) =
        ap (λ (f : List ℕ). block_by 256 block rest f (drop (block * 256) lines)) open_block ∙ simp (le-ltb _ _ l, ← add-one, next_lines lines block) in
        record { within = omega arith; few = at.few; finds = sym here ∙ at.finds }
