-- A quoted text as its ASCII bytes. Definitions: nothing is assumed.
use Rattle.std.specs.Prelude.{ℕ, List, [] as none, ◌∷◌ as ◌then◌}
use Prim.Native.Char.{code}
use Prim.Native.String.{String, [], ◌∷◌}

abbrev pub letters : String → List ℕ
letters [] = none
letters (c ∷ s) = code c then letters s
