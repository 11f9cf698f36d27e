-- Texts of document 01, by computation. Assumes nothing.
use mathlib.Core.Path.{◌≡◌, refl}
use mathlib.Core.Bool.{true}
use mathlib.Core.List.{[], ◌∷◌, map}
use lib.IntN.{pos, negsuc}
use Rattle.signed.specs.Errors.{size_of, is_under, signed_of}
use Rattle.pen.specs.Letters.{letters}
use Rattle.pen.specs.Text.{decimal_in, decimal, sized_text, signed_text, line}

zero_written : decimal 0 ≡ letters "0"
unfolding decimal decimal_in
zero_written = refl

longest : decimal 18446744073709551615 ≡ letters "18446744073709551615"
unfolding decimal decimal_in
longest = refl

-- the ends of what 64 bits hold with a sign, and 0 of either kind
least : signed_text (negsuc 9223372036854775807) ≡ letters "-9223372036854775808"
unfolding signed_text sized_text size_of is_under decimal decimal_in
least = refl

most : signed_text (pos 9223372036854775807) ≡ letters "9223372036854775807"
unfolding signed_text sized_text size_of is_under decimal decimal_in
most = refl

no_minus : signed_text (signed_of 0 true) ≡ letters "0"
unfolding signed_text sized_text size_of is_under signed_of decimal decimal_in
no_minus = refl

plan_line : line (letters "plan" ∷ map decimal (90 ∷ 120 ∷ 100 ∷ 0 ∷ 3 ∷ [])) ≡ letters "plan 90 120 100 0 3\n"
unfolding decimal decimal_in
plan_line = refl
