-- One share against another, by the products. Definitions: nothing is assumed.
use Rattle.std.specs.Prelude.{ℕ, ◌*◌, Bool, ltb}

-- a / b is above c / d, where b and d are above 0
unfoldable pub exceeds : ℕ → ℕ → ℕ → ℕ → Bool
exceeds a b c d = ltb (c * b) (a * d)
