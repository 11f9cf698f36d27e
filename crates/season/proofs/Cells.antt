-- The cells of the sheet: twenty-seven, one for each level and verdict. Assumes nothing.
use mathlib.Core.Path.{◌≡◌, ap}
use mathlib.Core.Bool.{Bool}
use mathlib.Core.List.{List, [], ◌∷◌}
use Prim.Native.Nat.{ℕ, ◌/◌, ◌%◌, ◌<◌}
use native.Mathlib.Omega.{arith}
use lib.Dec.{lit<, eqb, eqb→eq}
use lib.ListN.{get_or}
use Rattle.terms.proofs.Every.{below_at}
use Rattle.factors.specs.declared.Level.TheVariants.{P99, P95, P90, P85, P80, P75, P70, P60, P50}
use Rattle.factors.specs.declared.Level.{Level}
use Rattle.factors.specs.Levels.{row_of}
use Rattle.factors.proofs.Percents.{row_lt}
use Rattle.judge.specs.declared.Verdict.{Verdict}
use Rattle.judge.specs.declared.Verdict.TheVariants.{Below, Inconclusive, Above}
use Rattle.season.specs.Tally.{column_of, cell_of}

pub column_lt : (v : Verdict) → column_of v < 3
column_lt Below = lit< tt
column_lt Inconclusive = lit< tt
column_lt Above = lit< tt

pub cell_lt : (l : Level) (v : Verdict) → cell_of l v < 27
unfolding cell_of
cell_lt l v = omega (arith, row_lt l, column_lt v)

-- a cell has one row and one column
pub cell_row : (l m : Level) (v w : Verdict) → cell_of l v ≡ cell_of m w → row_of l ≡ row_of m
unfolding cell_of
cell_row l m v w e = omega (arith, column_lt v, column_lt w)

pub cell_column : (l m : Level) (v w : Verdict) → cell_of l v ≡ cell_of m w → column_of v ≡ column_of w
unfolding cell_of
cell_column l m v w e = omega (arith, column_lt v, column_lt w)

pub cell_fits : (l : Level) (v : Verdict) (at : ℕ) → at ≡ cell_of l v → at < 27
cell_fits l v at e = omega (arith, cell_lt l v)

-- every place of the counts is the cell of a level and a verdict
pub level_at : ℕ → Level
level_at at = get_or (P99 ∷ P95 ∷ P90 ∷ P85 ∷ P80 ∷ P75 ∷ P70 ∷ P60 ∷ P50 ∷ []) (at / 3) P50

pub verdict_at : ℕ → Verdict
verdict_at at = get_or (Below ∷ Inconclusive ∷ Above ∷ []) (at % 3) Above

placed : ℕ → Bool
placed at = eqb (cell_of (level_at at) (verdict_at at)) at

pub every_cell : (at : ℕ) → at < 27 → cell_of (level_at at) (verdict_at at) ≡ at
unfolding placed level_at verdict_at cell_of
every_cell at h = eqb→eq (cell_of (level_at at) (verdict_at at)) at (below_at placed 27 tt at h)

-- what stands at a place that is a cell stands in the cell
pub read_there : (counts : List ℕ) (at : ℕ) {place : ℕ} → at ≡ place → get_or counts at 0 ≡ get_or counts place 0
read_there counts at e = ap (λ (k : ℕ). get_or counts k 0) e
