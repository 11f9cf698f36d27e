-- The cases of `running_from`, as the loop over the lines meets them, and the refusals before it. Assumes nothing.
use mathlib.Core.Path.{◌≡◌, refl, sym, ap, ◌∙◌}
use mathlib.Core.Bool.{Bool, true, false, not}
use mathlib.Core.List.{List}
use Prim.Native.Nat.{ℕ, ◌+◌, ◌≤◌, ◌<◌}
use native.Mathlib.Numerals.{add-one}
use native.Mathlib.Omega.{arith}
use lib.ListN.{length, get_or, drop, drop_of_length-le}
use lib.Seq.{drop-cons}
use borrow.Author.Tests.{le-ltb, lt-ltb, ne_eqb, not-true, not-false}
use Rattle.terms.specs.Outcome.{accepted, refused, after}
use Rattle.terms.specs.Limits.{most_lines, most_value, most_total}
use Rattle.ledger.specs.Ledger.{running_from, running_total, some_total, ledger_with}

-- where `judge_lines` stands before a line: judging on from here gives what judging the whole does
pub record Judging (l : List ℕ) (running line : ℕ) : Type 0 where
  pub inside : line ≤ length l
  pub most : running ≤ most_total
  pub rest : running_from line running (drop line l) ≡ running_total l

pub first_line : {l : List ℕ} → Judging l 0 0
unfolding running_total
first_line = record { inside = omega arith; most = omega arith; rest = refl }

module _ {l : List ℕ} {running line : ℕ} (at : Judging l running line) where
  pub value_too_large : line < length l → most_value < get_or l line 0 → refused 3 line ≡ running_total l
  unfolding running_from
  value_too_large inside h = sym (rw (drop-cons l line 0) (simp (lt-ltb _ _ h))) ∙ at.rest

  pub total_too_large : line < length l → get_or l line 0 ≤ most_value → most_total < running + get_or l line 0 → refused 4 line ≡ running_total l
  unfolding running_from
  total_too_large inside h t = sym (rw (drop-cons l line 0) (simp (le-ltb _ _ h, lt-ltb _ _ t))) ∙ at.rest

  pub next_line : line < length l → get_or l line 0 ≤ most_value → running + get_or l line 0 ≤ most_total → Judging l (running + get_or l line 0) (line + 1)
  unfolding running_from
  next_line inside h t = record { inside = omega arith; most = t; rest = sym (rw (drop-cons l line 0) (simp (le-ltb _ _ h, le-ltb _ _ t, add-one))) ∙ at.rest }

  pub no_line : length l ≤ line → accepted running ≡ running_total l
  unfolding running_from
  no_line h = sym (rw (drop_of_length-le l h)) ∙ at.rest

-- the refusals before it, in their order
module _ (l : List ℕ) (same : Bool) where
  pub too_many_lines : most_lines < length l → refused 2 0 ≡ ledger_with l same
  unfolding ledger_with
  too_many_lines h = sym (simp (lt-ltb _ _ h))

  pub lengths_differ : length l ≤ most_lines → not same ≡ true → refused 13 0 ≡ ledger_with l same
  unfolding ledger_with
  lengths_differ few e = sym (simp (le-ltb _ _ few, not-true same e))

  -- and the lines' total, which is not 0
  pub total_is : {total : ℕ} → length l ≤ most_lines → not same ≡ false → accepted total ≡ running_total l → (total ≡ 0 → ⊥) → accepted total ≡ ledger_with l same
  unfolding ledger_with
  total_is few agree judged some = sym (simp (le-ltb _ _ few, not-false same agree) (ap (after some_total) (sym judged) ∙ simp (ne_eqb _ _ some)))
