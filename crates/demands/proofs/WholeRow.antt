-- What a summary that agrees finds is the item of the whole, unsplit row. Assumes nothing.
use Prim.Native.Nat.{ℕ, zero, suc, ◌≤◌, ◌<◌, zero-le}
use mathlib.Core.Path.{◌≡◌, ap, ◌∙◌}
use mathlib.Core.List.{List, [], ◌∷◌}
use native.Mathlib.Omega.{arith}
use borrow.Author.Tests.{le-ltb}
use lib.ListN.{length, get_or, take}
use Rattle.terms.specs.Outcome.{accepted}
use Rattle.terms.specs.Numbers.{sum, AllUpTo}
use Rattle.terms.specs.Limits.{most_lines}
use Rattle.draw.specs.Row.{cents, row_cents, item_at}
use Rattle.draw.proofs.Laws.{row_nil, row_more}
use Rattle.draw.proofs.Row.{item_only}
use Rattle.totals.specs.Summary.{in_use, Agrees}
use Rattle.totals.specs.Lookup.{find_of, line_holding}
use Rattle.totals.proofs.Laws.{agrees_alone}
use Rattle.demands.specs.WholeRow.{FoundOnRow, WholeRow}

-- a line that is not full has its whole value on the row
takes_all : (J v : ℕ) → v ≤ J → v ≡ cents J v
takes_all J v h = simp (le-ltb _ _ h)

-- where no line is full the row is as long as the lines
whole_cents : (J : ℕ) (l : List ℕ) → AllUpTo J l → row_cents J l ≡ sum l
whole_cents J [] a = row_nil J
whole_cents J (v ∷ l) a = omega (arith, row_more J v l, takes_all J v a.0, whole_cents J l a.1)

-- a bound on all lines is one on the first of them, and on each
first_up_to : (J n : ℕ) (l : List ℕ) → AllUpTo J l → AllUpTo J (take n l)
first_up_to J zero l a = tt
first_up_to J (suc n) [] a = tt
first_up_to J (suc n) (v ∷ l) a = (a.0, first_up_to J n l a.1)

each_up_to : (J : ℕ) (l : List ℕ) (i : ℕ) → AllUpTo J l → get_or l i 0 ≤ J
each_up_to J [] i a = zero-le
each_up_to J (v ∷ l) zero a = a.0
each_up_to J (v ∷ l) (suc i) a = each_up_to J l i a.1

module _ (room : List ℕ) (count : ℕ) (summary : List ℕ) (agrees : Agrees room count summary) (few : count ≤ most_lines) (inside : count ≤ length room) (J : ℕ)
    (sampled : AllUpTo J (in_use room count)) where
  on_row : (cent line : ℕ) → find_of room count summary cent ≡ accepted line → line ≡ item_at J (in_use room count) cent
  on_row cent line e =
      let l = in_use room count in
      let held = ((agrees_alone room count summary agrees few inside).holds cent line).0 e in
      let before = whole_cents J (take line l) (first_up_to J line l sampled) in
      let taken = takes_all J (get_or l line 0) (each_up_to J l line sampled) in
      item_only J l cent line held.inside (omega (arith, before, held.begins), omega (arith, before, taken, held.ends))

  found_on_row : FoundOnRow room count summary J
  found_on_row =
      record {
        item = on_row;
        every = λ cent h.
            let l = in_use room count in
            let below : cent < sum l = omega (arith, whole_cents J l sampled) in
            let e = (agrees_alone room count summary agrees few inside).found cent below in
            e ∙ ap accepted (on_row cent (line_holding l cent) e);
      }

pub whole_row : WholeRow
whole_row room count summary agrees few inside J sampled = found_on_row room count summary agrees few inside J sampled
