-- The text of the ledger's lines, as a loop that walks along them writes it. Assumes nothing.
use Prim.Native.Nat.{ℕ, suc, ◌+◌, ◌^◌, ◌≤◌, ◌<◌, zero-le}
use native.Mathlib.Numerals.{add-one}
use native.Mathlib.Omega.{arith}
use mathlib.Core.Path.{◌≡◌, refl, sym, ap, ◌∙◌}
use mathlib.Core.List.{List, [], ◌++◌}
use lib.IntN.{ℤ, pos}
use lib.ListN.{length, get_or, drop}
use lib.Seq.{drop-drop, get_or-drop}
use lib.Signed.{lt_z}
use mir.Syntax.{w64}
use mir.Val.{SFits}
use Rattle.signed.specs.declared.Part.TheVariants.{Size}
use Rattle.signed.specs.Errors.{size_of, is_under}
use Rattle.signed.specs.Parts.{parts}
use Rattle.signed.proofs.Laws.{part_is_size, parts_at}
use Rattle.signed.proofs.Signs.{held, kept, kind_read, size_read}
use Rattle.pen.specs.Page.{page, write, Wrote}
use Rattle.pen.proofs.Writing.{Left, left_more, left_none, as_text}
use Rattle.walk.specs.Walk.{ahead_after}
use Rattle.project.specs.declared.Line.{Line}
use Rattle.project.specs.Gather.{line_at, lines_walk, line_with}
use Rattle.project.proofs.Lines.{lines_walked, walk_on, walk_end}
use Rattle.steps.specs.Steps.{Shown}
use Rattle.sheet.specs.Lines.{item_text, items_text, ledger_text}

-- the text of the lines from an item on, from which the next drawing point is `next` cents on
abbrev pub rest : ℕ → ℕ → List ℕ → List ℤ → ℕ → ℕ → List ℕ
rest first J ledger errors next item = items_text (drop item errors) (first + item) (lines_walk J next (drop item ledger) (drop item (parts Size errors)))

-- one line, as `ledger_line` meets its error
module _ (J next v : ℕ) (e : ℤ) {size : ℕ} (fits : SFits w64 e) (told : size ≡ size_of (held e)) where
  pub size_within : size_of e ≤ v → size ≤ v
  size_within within = omega (arith, size_read e fits.sfits told, within)

  pub line_written : (item : ℕ) {l : Line} {old new : List ℕ} {at to : ℕ} → l ≡ line_at J next v size → Wrote old at (item_text item (lt_z (held e) (pos 0)) l) new to →
      Wrote old at (item_text item (is_under e) (line_with Size J next v e)) new to
  line_written item is wrote =
      let same : line_with Size J next v e ≡ _ = sym (is ∙ ap (line_at J next v) (size_read e fits.sfits told ∙ sym (part_is_size e))) in
      as_text (λ i. item_text item (kind_read e fits.sfits refl i) (same i)) wrote

module _ (first J : ℕ) (ledger : List ℕ) (errors : List ℤ) where
  pub rest_all : (start : ℕ) → ledger_text first J start ledger errors ≡ rest first J ledger errors start 0
  unfolding ledger_text
  rest_all start =
      let here : first ≡ first + 0 = omega arith in
      λ i. items_text errors (here i) (lines_walked J start ledger (parts Size errors) i)

  rest_more : (next item : ℕ) → item < length ledger → (next' : ℕ) → next' ≡ ahead_after J next (get_or ledger item 0) →
      let e = get_or errors item (pos 0) in
      rest first J ledger errors next item ≡ item_text (first + item) (is_under e) (line_with Size J next (get_or ledger item 0) e) ++ rest first J ledger errors next' (item + 1)
  unfolding items_text
  rest_more next item more next' on =
      let here : item + 0 ≡ item = omega arith in
      let own : get_or (drop item errors) 0 (pos 0) ≡ get_or errors item (pos 0) = get_or-drop item errors 0 (pos 0) ∙ ap (λ (k : ℕ). get_or errors k (pos 0)) here in
      let number : suc (first + item) ≡ first + (item + 1) = omega arith in
      ap (items_text (drop item errors) (first + item)) (walk_on J next ledger (parts Size errors) item more)
      ∙ rw (own, parts_at Size errors item, drop-drop 1 item errors, number, on, add-one item) refl

  rest_none : (next item : ℕ) → length ledger ≤ item → rest first J ledger errors next item ≡ []
  unfolding items_text
  rest_none next item h = ap (items_text (drop item errors) (first + item)) (walk_end J next ledger (drop item (parts Size errors)) item h)

-- the lines before an item are written, and the others are left to write
pub record Listing (first J start : ℕ) (ledger : List ℕ) (errors : List ℤ) (old : List ℕ) (at : ℕ) (new : List ℕ) (to next item : ℕ) : Type 0 where
  pub inside : item ≤ length ledger
  pub left : Left old at (ledger_text first J start ledger errors) new to (rest first J ledger errors next item)

module _ (first J start : ℕ) (ledger : List ℕ) (errors : List ℤ) (old : List ℕ) (at : ℕ) where
  pub listing_none : Listing first J start ledger errors old at old at start 0
  listing_none =
      record { inside = zero-le; left = record { kept = refl; same = ap (λ (text : List ℕ). write (page old at) text) (sym (rest_all first J ledger errors start)) } }

  module _ {new : List ℕ} {to next item : ℕ} where
    pub listing_more : {new' : List ℕ} {to' next' : ℕ} → Listing first J start ledger errors old at new to next item → item < length ledger → SFits w64 (get_or errors item (pos 0)) →
        let e = held (get_or errors item (pos 0)) in Wrote new to (item_text (first + item) (is_under e) (line_with Size J next (get_or ledger item 0) e)) new' to' →
        next' ≡ ahead_after J next (get_or ledger item 0) → Listing first J start ledger errors old at new' to' next' (item + 1)
    listing_more so more fits wrote on =
        let own = ap (λ (e : ℤ). item_text (first + item) (is_under e) (line_with Size J next (get_or ledger item 0) e)) (sym (kept (get_or errors item (pos 0)) fits.sfits)) in
        record { inside = omega arith; left = left_more so.left (rest_more first J ledger errors next item more _ on) (as_text own wrote) }

    pub listing_all : Listing first J start ledger errors old at new to next item → length ledger ≤ item → Wrote old at (ledger_text first J start ledger errors) new to
    listing_all so done = left_none so.left (rest_none first J ledger errors next item done)

-- what a line of the ledger asks
pub line_within : {first J : ℕ} {ledger : List ℕ} {errors : List ℤ} → Shown first J ledger errors → (item : ℕ) → item < length ledger → SFits w64 (get_or errors item (pos 0)) →
    size_of (held (get_or errors item (pos 0))) ≤ get_or ledger item 0
line_within {errors = errors} p item h fits =
    let e = get_or errors item (pos 0) in
    omega (arith, p.within item h, parts_at Size errors item, part_is_size e, ap size_of (kept e fits.sfits))

-- its number fits
pub number_fits : {first J : ℕ} {ledger : List ℕ} {errors : List ℤ} → Shown first J ledger errors → {item : ℕ} → item < length ledger → first + item < 2 ^ 64
number_fits p h = omega (arith, p.few)
