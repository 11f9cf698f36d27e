-- Whether line counts add to a number of lines, and what lines add to, as the two loops meet it. Assumes nothing.
use mathlib.Core.Path.{◌≡◌}
use mathlib.Core.List.{List}
use Prim.Native.Nat.{ℕ, ◌+◌, ◌^◌, ◌≤◌, ◌<◌}
use lib.ListN.{length, drop}
use Rattle.terms.specs.Numbers.{sum}

-- `counts_add`: the counts before h are taken off
pub record Taking (counts : List ℕ) (lines left h : ℕ) : Type 0 where
  pub within : h ≤ length counts
  pub off : left + sum counts ≡ lines + sum (drop h counts)

-- `book_of`: what is added and what is to come make the whole
pub record Summing (part : List ℕ) (total line : ℕ) : Type 0 where
  pub inside : line ≤ length part
  pub adds : total + sum (drop line part) ≡ sum part
  pub fits : sum part < 2 ^ 64
