-- Findings on the practice ledger with the marks of its draw at start 25, by computation. Assumes nothing.
use mathlib.Core.Path.{◌≡◌, refl}
use mathlib.Core.List.{List, [], ◌∷◌}
use Prim.Native.Nat.{ℕ}
use lib.IntN.{ℤ, pos, negsuc}
use Rattle.terms.specs.Outcome.{Outcome, accepted, refused}
use Rattle.signed.specs.Errors.{size_of}
use Rattle.findings.specs.Findings.{line_of, post_of}
use Rattle.findings.specs.Batch.{Batch, pairs_of, posted_from, post_all_of}

abbrev pub claims : List ℕ
claims = 30 ∷ 30 ∷ 40 ∷ 20 ∷ []

abbrev pub drawn : List ℕ
drawn = 1 ∷ 0 ∷ 1 ∷ 1 ∷ []

abbrev pub none : List ℤ
none = pos 0 ∷ pos 0 ∷ pos 0 ∷ pos 0 ∷ []

-- a batch into no errors: what it says, and the errors afterwards
abbrev pub batch : List ℕ → List ℤ → Batch
batch lines found = post_all_of claims drawn none lines found

abbrev pub gives : Outcome ℕ → List ℤ → Batch
gives says errors = record { says = says; errors = errors }

-- the three findings of the practice case, and none at all
pub practice : (batch (0 ∷ 2 ∷ 3 ∷ []) (pos 7 ∷ pos 10 ∷ pos 5 ∷ []) ≡ gives (accepted 3) (pos 7 ∷ pos 0 ∷ pos 10 ∷ pos 5 ∷ []))
    × (batch [] [] ≡ gives (accepted 0) none)
unfolding post_all_of posted_from pairs_of post_of line_of size_of
practice = (refl, refl)

-- a later pair for a line replaces the earlier, and an error of 0 clears what stands on a line, whatever its mark
pub replaced : (batch (0 ∷ 2 ∷ 0 ∷ []) (pos 7 ∷ pos 10 ∷ negsuc 2 ∷ []) ≡ gives (accepted 3) (negsuc 2 ∷ pos 0 ∷ pos 10 ∷ pos 0 ∷ []))
    × (post_all_of claims drawn (pos 7 ∷ pos 9 ∷ pos 10 ∷ pos 5 ∷ []) (1 ∷ 2 ∷ []) (pos 0 ∷ pos 0 ∷ []) ≡ gives (accepted 2) (pos 7 ∷ pos 0 ∷ pos 0 ∷ pos 5 ∷ []))
unfolding post_all_of posted_from pairs_of post_of line_of size_of
replaced = (refl, refl)

-- the pair at position 1 is refused: the one before it stays posted, the one after it is not; line 1 is not drawn, 4 is no line, and the
-- size of -41 exceeds 40
pub stopped : (batch (0 ∷ 1 ∷ 3 ∷ []) (pos 7 ∷ pos 1 ∷ pos 5 ∷ []) ≡ gives (refused 15 1) (pos 7 ∷ pos 0 ∷ pos 0 ∷ pos 0 ∷ []))
    × (batch (0 ∷ 4 ∷ 3 ∷ []) (pos 7 ∷ pos 0 ∷ pos 5 ∷ []) ≡ gives (refused 20 1) (pos 7 ∷ pos 0 ∷ pos 0 ∷ pos 0 ∷ []))
    × (batch (0 ∷ 2 ∷ 3 ∷ []) (pos 7 ∷ negsuc 40 ∷ pos 5 ∷ []) ≡ gives (refused 14 1) (pos 7 ∷ pos 0 ∷ pos 0 ∷ pos 0 ∷ []))
unfolding post_all_of posted_from pairs_of post_of line_of size_of
stopped = (refl, refl, refl)

-- 14 comes before 15, and 13 before both: of the marks, of the errors or of the two lists
pub first_refusals : (batch (1 ∷ []) (pos 31 ∷ []) ≡ gives (refused 14 0) none)
    × (post_all_of claims (1 ∷ []) none (4 ∷ []) (pos 1 ∷ []) ≡ gives (refused 13 0) none)
    × (post_all_of claims drawn [] (4 ∷ []) (pos 1 ∷ []) ≡ gives (refused 13 0) [])
    × (batch (0 ∷ 4 ∷ []) (pos 7 ∷ []) ≡ gives (refused 13 0) none)
unfolding post_all_of posted_from pairs_of post_of line_of size_of
first_refusals = (refl, refl, refl, refl)

-- a mark of 2 is full; one of 3 says neither
pub marks : (post_of claims (2 ∷ 3 ∷ 0 ∷ 1 ∷ []) none 0 (pos 30) ≡ accepted (pos 30 ∷ pos 0 ∷ pos 0 ∷ pos 0 ∷ []))
    × (post_of claims (2 ∷ 3 ∷ 0 ∷ 1 ∷ []) none 1 (pos 30) ≡ refused 15 0)
    × (post_of claims (2 ∷ 3 ∷ 0 ∷ 1 ∷ []) none 1 (pos 0) ≡ accepted none)
unfolding post_of line_of size_of
marks = (refl, refl, refl)
