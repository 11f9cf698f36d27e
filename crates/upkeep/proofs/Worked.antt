-- Worked cases, computed by the definitions. Assumes nothing.
use mathlib.Core.Path.{◌≡◌, refl}
use mathlib.Core.List.{[], ◌∷◌}
use Rattle.terms.specs.Outcome.{accepted, refused}
use Rattle.terms.specs.Numbers.{div_up}
use Rattle.totals.specs.Summary.{blocks, shape_of}
use Rattle.totals.proofs.Worked.{room, right}
use Rattle.upkeep.specs.Upkeep.{value_judged, figure_moved, both_moved, changed_to, appended_to, change_of, append_of, new_figures, figures_set}

-- line 299 becomes 12: its block and the grand total move by 10
pub changed : change_of room 300 right 299 12 ≡ accepted (new_figures 98 610)
unfolding change_of changed_to value_judged both_moved figure_moved shape_of blocks div_up
changed = refl

pub changed_summary : figures_set 600 right 299 (new_figures 98 610) ≡ 512 ∷ 98 ∷ 0 ∷ 610 ∷ []
unfolding figures_set blocks div_up
changed_summary = refl

-- line 300 of 5 cents is appended to block 1
pub appended : append_of room 300 right 5 ≡ accepted (new_figures 93 605)
unfolding append_of appended_to value_judged both_moved figure_moved shape_of blocks div_up
appended = refl

-- 31: the block first, then the grand total, which counts as one block more
pub changed_block : change_of room 300 (512 ∷ 1 ∷ 0 ∷ 1 ∷ []) 299 0 ≡ refused 31 1
unfolding change_of changed_to value_judged both_moved figure_moved shape_of blocks div_up
changed_block = refl

pub changed_grand : change_of room 300 (512 ∷ 88 ∷ 0 ∷ 1 ∷ []) 299 0 ≡ refused 31 3
unfolding change_of changed_to value_judged both_moved figure_moved shape_of blocks div_up
changed_grand = refl

-- a line that is not in use; a value above its limit; a full room, where 18 names the count that is needed
pub changed_unused : change_of room 300 right 300 1 ≡ refused 20 0
unfolding change_of shape_of blocks div_up
changed_unused = refl

pub changed_large : change_of room 300 right 299 10000000000001 ≡ refused 3 299
unfolding change_of changed_to value_judged shape_of blocks div_up
changed_large = refl

pub appended_full : append_of room 600 right 1 ≡ refused 18 601
unfolding append_of appended_to value_judged shape_of blocks div_up
appended_full = refl
