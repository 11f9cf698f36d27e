-- Shares compared by computation: equal ones, a third against a little less, and two whose products pass 64 bits. Assumes nothing.
use mathlib.Core.Path.{◌≡◌, refl}
use mathlib.Core.Bool.{true, false}
use Rattle.ratio.specs.Ratio.{exceeds}

equal : exceeds 2 6 1 3 ≡ false
unfolding exceeds
equal = refl

a_little_above : exceeds 1000000000000000 3000000000000000 333333333333333 1000000000000000 ≡ true
unfolding exceeds
a_little_above = refl

past_64_bits : exceeds 18446744073709551614 18446744073709551613 18446744073709551615 18446744073709551614 ≡ true
unfolding exceeds
past_64_bits = refl
