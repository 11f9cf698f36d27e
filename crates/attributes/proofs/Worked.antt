-- Document 000's table 1, a row for each tolerance: the sizes at levels 90, 95 and 99. Computed; assumes nothing.
use mathlib.Core.Path.{◌≡◌, refl}
use mathlib.Core.List.{[], ◌∷◌, map}
use Rattle.terms.specs.Outcome.{accepted}
use Rattle.attributes.specs.Table.{levels, tolerances, sizes}
use Rattle.attributes.specs.Attributes.{place_from, level_place, tolerance_place, entry_place, items_of}

pub table_1 :
    map (λ tolerance. map (λ level. items_of level tolerance) (90 ∷ 95 ∷ 99 ∷ [])) (1 ∷ 3 ∷ 5 ∷ 7 ∷ 10 ∷ [])
    ≡ map (map accepted) (
    (230 ∷ 299 ∷ 459 ∷ []) ∷
    (76 ∷ 99 ∷ 152 ∷ []) ∷
    (45 ∷ 59 ∷ 90 ∷ []) ∷
    (32 ∷ 42 ∷ 64 ∷ []) ∷
    (22 ∷ 29 ∷ 44 ∷ []) ∷
    []
    )
unfolding items_of entry_place tolerance_place level_place place_from levels tolerances sizes
table_1 = refl
