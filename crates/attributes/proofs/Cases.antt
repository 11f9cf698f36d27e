-- Document 000's case, and calls that earn three, two and one of the refusals. Computed; assumes nothing.
use mathlib.Core.Path.{◌≡◌, refl}
use Rattle.terms.specs.Outcome.{accepted, refused}
use Rattle.attributes.specs.Table.{levels, tolerances, bounds}
use Rattle.attributes.specs.Attributes.{place_from, level_place, tolerance_place, entry_place, bound_at, bound_of}

-- 45 items with 2 exceptions at 90 percent: 11.40 percent
pub two_in_forty_five : bound_of 90 5 2 ≡ accepted 1140
unfolding bound_of bound_at entry_place tolerance_place level_place place_from levels tolerances bounds
two_in_forty_five = refl

-- 1 comes before 25, and 25 before 26
pub all_three : bound_of 85 2 11 ≡ refused 1 0
unfolding bound_of bound_at entry_place tolerance_place level_place place_from levels tolerances bounds
all_three = refl

pub two_of_them : bound_of 90 2 11 ≡ refused 25 0
unfolding bound_of bound_at entry_place tolerance_place level_place place_from levels tolerances bounds
two_of_them = refl

pub last_alone : bound_of 90 5 11 ≡ refused 26 0
unfolding bound_of bound_at entry_place tolerance_place level_place place_from levels tolerances bounds
last_alone = refl
