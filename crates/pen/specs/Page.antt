-- Writing on a page: bytes go to the place of the pen, one after the other; at the end of the page the pen stops. Definitions: nothing is assumed.
use Rattle.std.specs.Prelude.{ℕ, ◌+◌, ◌≤◌, ◌≡◌, List, [], ◌∷◌, ◌++◌, ltb, length, set, take, drop}
use Rattle.terms.specs.Numbers.{pick}

pub record Page : Type 0 where
  pub bytes : List ℕ
  pub at : ℕ

abbrev pub page : List ℕ → ℕ → Page
page bytes at = record { bytes = bytes; at = at }

-- one byte
unfoldable pub put : Page → ℕ → Page
put p b = pick (ltb p.at (length p.bytes)) (page (set p.bytes p.at b) (p.at + 1)) p

-- a text
unfoldable pub write : Page → List ℕ → Page
write p [] = p
write p (b ∷ bs) = write (put p b) bs

-- from the place `at`, the text was written on the page `old`, which is then `new`, with the pen at `next`
pub record Wrote (old : List ℕ) (at : ℕ) (text new : List ℕ) (next : ℕ) : Type 0 where
  pub same : page new next ≡ write (page old at) text

-- the text stands at the start of the page, nothing else has changed, and r is its length
pub record Printed (text old : List ℕ) (r : ℕ) (new : List ℕ) : Type 0 where
  pub counted : r ≡ length text
  pub whole : new ≡ text ++ drop (length text) old
  -- both follow, and are what `&out[..r]` asks
  pub within : r ≤ length new
  pub front : r ≡ length (take r new)
