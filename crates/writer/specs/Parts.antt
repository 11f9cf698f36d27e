-- The parts of the writer: bytes laid from a place on, the bytes of a list, and its sum. Definitions: nothing is assumed.
use Rattle.std.specs.Prelude.{ℕ, ◌+◌, ◌*◌, ◌≤◌, ◌≡◌, List, [], ◌∷◌, ◌++◌, ltb, length, ℤ, Option, Some, None}
use Rattle.std.proofs.lemmas.List.Edits.{sets}
use Rattle.terms.specs.Numbers.{pick, sum}
use Rattle.workfile.specs.Numbers.{bytes}
use Rattle.workfile.specs.Content.{Content, plan_bytes, bytes_of_all, error_records, sum_bound}
use Rattle.workfile.specs.declared.Plan.{Plan}

-- a file with bytes stored one by one from a place on
unfoldable pub lay : List ℕ → ℕ → List ℕ → List ℕ
lay file at bs = sets file at bs

-- the bytes that a part has laid, and where the next goes
pub record Laid (file : List ℕ) (at : ℕ) (bs file' : List ℕ) (next : ℕ) : Type 0 where
  pub same : file' ≡ lay file at bs
  pub ends : next ≡ at + length bs

-- a record of one kind for each number
unfoldable pub rows : ℕ → List ℕ → List ℕ
rows kind [] = []
rows kind (x ∷ xs) = (kind ∷ bytes 8 x) ++ rows kind xs

-- an E or a U for each error other than 0, from a line on
unfoldable pub error_bytes : ℕ → List ℤ → List ℕ
error_bytes line errors = bytes_of_all (error_records line errors)

-- the sum, where it is within 64 bits
unfoldable pub total_of : List ℕ → Option ℕ
total_of values = pick (ltb (sum values) sum_bound) (Some (sum values)) None

-- P, and the records W and L
abbrev pub front_bytes : Plan → List ℕ → List ℕ → List ℕ
front_bytes plan words values = plan_bytes plan ++ rows 0x57 words ++ rows 0x4C values

-- room for a file: P and Z, the records W and L, and those of the errors
pub record HasRoom (c : Content) (room : ℕ) : Type 0 where
  pub front : length (front_bytes c.plan c.words c.values) ≡ 18 + 9 * length c.words + 9 * length c.values
  pub fits : 31 + 9 * length c.words + 9 * length c.values + length (error_bytes 0 c.errors) ≤ room
