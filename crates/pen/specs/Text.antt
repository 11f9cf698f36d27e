-- Texts as bytes: a number in decimal, a line of words. Definitions: nothing is assumed.
use Rattle.std.specs.Prelude.{ℕ, zero, suc, ◌+◌, ◌/◌, ◌%◌, Bool, true, false, List, [], ◌∷◌, ◌++◌, ltb, ℤ}
use Rattle.terms.specs.Numbers.{pick}
use Rattle.signed.specs.Errors.{size_of, is_under}

-- the ASCII digit of a number below 10
abbrev pub digit : ℕ → ℕ
digit d = 48 + d

-- n in decimal: the digits of n / 10, where there are any, and the last digit. The first argument only bounds the recursion.
unfoldable pub decimal_in : ℕ → ℕ → List ℕ
decimal_in zero n = digit n ∷ []
decimal_in (suc k) n = let front = decimal_in k (n / 10) in pick (ltb n 10) (digit n ∷ []) (front ++ (digit (n % 10) ∷ []))

unfoldable pub decimal : ℕ → List ℕ
decimal n = decimal_in n n

-- a size with the sign of its kind: a minus before it where it is understated
unfoldable pub sized_text : ℕ → Bool → List ℕ
sized_text n false = decimal n
sized_text n true = 45 ∷ decimal n

-- a signed number
unfoldable pub signed_text : ℤ → List ℕ
signed_text e = sized_text (size_of e) (is_under e)

-- words joined by one space and ended by a newline
abbrev pub more : List (List ℕ) → List ℕ
more [] = 10 ∷ []
more (w ∷ ws) = 32 ∷ (w ++ more ws)

abbrev pub line : List (List ℕ) → List ℕ
line [] = 10 ∷ []
line (w ∷ ws) = w ++ more ws

-- numbers, each after a space
unfoldable pub fields : List ℕ → List ℕ
fields [] = []
fields (n ∷ ns) = (32 ∷ decimal n) ++ fields ns
