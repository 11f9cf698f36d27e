-- The loop that makes the portions of all strata, and the shares from them. Assumes nothing.
use mathlib.Core.Path.{◌≡◌, refl, sym, ap, ◌∙◌}
use mathlib.Core.List.{List}
use Prim.Native.Nat.{ℕ, ◌+◌, ◌-◌, ◌^◌, ◌≤◌, ◌<◌}
use native.Mathlib.Omega.{arith}
use lib.ListN.{length, get_or, take, drop, set, length-set, length-map}
use Rattle.terms.specs.Numbers.{sum}
use Rattle.terms.proofs.Sums.{one_of_sum}
use Rattle.terms.proofs.Filling.{fill_more, fill_done}
use Rattle.shares.specs.declared.Portions.{Portions}
use Rattle.shares.specs.Shares.{with_value, remainder_of, draws_before, give_out, remainders_of, draws_of, leftover_of, shares_of}
use Rattle.shares.specs.Steps.{Shareable, Portionable, PortionsOf}
use Rattle.shares.proofs.Largest.{some_with}
use Rattle.shares.proofs.Adding.{draws_at, leftover_is}
use Rattle.shares.proofs.Loops.{strata_on, none_left}

-- `portions_of`: the portions of the strata before h are written, and the draws of the others are still to be taken from what is left
pub record Portioning (books : List ℕ) (total n rest : ℕ) (draws remainders : List ℕ) (leftover h : ℕ) : Type 0 where
  pub given : Shareable books total n
  pub strata : length books ≡ 32
  pub inside : h ≤ 32
  pub after_first : rest ≡ n - with_value books
  pub long : length draws ≡ 32
  pub beside : length remainders ≡ 32
  pub written : take h draws ≡ take h (draws_of books n)
  pub remain : take h remainders ≡ take h (remainders_of books n)
  pub left : leftover ≡ leftover_of books n + sum (drop h (draws_of books n))

module _ {books : List ℕ} {total n : ℕ} (given : Shareable books total n) where
  some_value : 0 < sum books
  some_value = let a = given.added in omega (arith, given.some)

  pub portioning_none : {counted : ℕ} (zeros : List ℕ) → length books ≡ 32 → counted ≡ with_value books → length zeros ≡ 32 →
      Portioning books total n (n - counted) zeros zeros n 0
  portioning_none zeros strata e long =
      record {
        given = given;
        strata = strata;
        inside = omega arith;
        after_first = ap (λ (k : ℕ). n - k) e;
        long = long;
        beside = long;
        written = refl;
        remain = refl;
        left = omega (arith, leftover_is books n some_value given.enough);
      }

module _ {books : List ℕ} {total n rest leftover h : ℕ} {draws remainders : List ℕ} (at : Portioning books total n rest draws remainders leftover h) where
  pub portion_asks : n < 2 ^ 64 → Portionable (get_or books h 0) total rest
  portion_asks f =
      let g = at.given in
      let a = g.added in
      let e = at.after_first in
      record { within = omega (arith, one_of_sum books h); some = g.some; most = g.most; room = omega (arith, some_with books (some_value g)) }

  many : length (draws_of books n) ≡ 32
  unfolding draws_of
  many = length-map books (draws_before (n - with_value books) (sum books)) ∙ at.strata

  module _ {d r : ℕ} (more : h < 32) (e : d ≡ draws_before rest total (get_or books h 0)) (f : r ≡ remainder_of rest total (get_or books h 0)) where
    own_draws : d ≡ draws_before (n - with_value books) (sum books) (get_or books h 0)
    own_draws = e ∙ (λ i. draws_before (at.after_first i) (at.given.added i) (get_or books h 0))

    own_remainder : r ≡ remainder_of (n - with_value books) (sum books) (get_or books h 0)
    own_remainder = f ∙ (λ i. remainder_of (at.after_first i) (at.given.added i) (get_or books h 0))

    still : sum (drop h (draws_of books n)) ≡ d + sum (drop (h + 1) (draws_of books n))
    still = omega (arith, ap sum (strata_on (draws_of books n) h (omega (arith, many))), draws_at books n h, own_draws)

    pub portion_within : d ≤ leftover
    portion_within = omega (arith, at.left, still)

    pub portioning_next : Portioning books total n rest (set draws h d) (set remainders h r) (leftover - d) (h + 1)
    unfolding draws_of remainders_of
    portioning_next =
        let inside : h < length books = omega (arith, at.strata) in
        record {
          given = at.given;
          strata = at.strata;
          inside = omega arith;
          after_first = at.after_first;
          long = length-set draws h d ∙ at.long;
          beside = length-set remainders h r ∙ at.beside;
          written = fill_more (draws_before (n - with_value books) (sum books)) books draws h (at.long ∙ sym at.strata) d inside own_draws at.written;
          remain = fill_more (remainder_of (n - with_value books) (sum books)) books remainders h (at.beside ∙ sym at.strata) r inside own_remainder at.remain;
          left = omega (arith, at.left, still);
        }

  pub portioning_end : 32 ≤ h → PortionsOf books n record { draws = draws; remainders = remainders; leftover = leftover }
  unfolding draws_of remainders_of
  portioning_end end =
      let all : length books ≤ h = omega (arith, at.strata) in
      record {
        draws = fill_done (draws_before (n - with_value books) (sum books)) books draws h (at.long ∙ sym at.strata) all at.written;
        remainders = fill_done (remainder_of (n - with_value books) (sum books)) books remainders h (at.beside ∙ sym at.strata) all at.remain;
        leftover = omega (arith, at.left, ap sum (none_left (draws_of books n) h (omega (arith, many))));
      }

-- `share_out`: the draws before and those left over make n, and the latter are given out
module _ {books : List ℕ} {total n : ℕ} {portions : Portions} (given : Shareable books total n) (by : PortionsOf books n portions) where
  pub portions_make : sum portions.draws + portions.leftover ≡ n
  portions_make = omega (arith, ap sum by.draws, by.leftover, leftover_is books n (some_value given) given.enough)

  pub shared_out : {out : List ℕ} → out ≡ give_out portions.leftover portions.remainders portions.draws → out ≡ shares_of books n
  unfolding shares_of
  shared_out e = e ∙ (λ i. give_out (by.leftover i) (by.remainders i) (by.draws i))
