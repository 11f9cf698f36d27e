-- Seasons worked by computation: a whole tally, and the refusals in their order at their limits. Assumes nothing.
use Rattle.std.specs.Prelude.{Some, None}
use mathlib.Core.Path.{◌≡◌, refl}
use mathlib.Core.List.{List, [], ◌∷◌}
use Prim.Native.Nat.{ℕ}
use lib.ListN.{replicate}
use Rattle.terms.specs.Outcome.{Outcome, accepted, refused}
use Rattle.factors.specs.Levels.{level_of}
use Rattle.judge.specs.declared.Verdict.{Verdict}
use Rattle.judge.specs.declared.Verdict.TheVariants.{Below, Inconclusive, Above}
use Rattle.ratio.specs.Ratio.{exceeds}
use Rattle.season.specs.declared.{Tally.Tally}
use Rattle.season.specs.Tally.{Entry, cell_of, leads_of, passes_of, no_tally, with_judged, with_not_judged}
use Rattle.season.specs.Add.{settled_of, at_level, judged_of, add_of}
use Rattle.season.specs.Figures.{admitted, added_from, added_of, tally_from, tally_of}

made : ℕ → ℕ → ℕ → Verdict → Entry
made level book limit verdict = Some (record { level = level; book = book; limit = limit; verdict = verdict })

-- a third, one that was refused, a half, an unknown level, two quarters, and a half again
offered : List Entry
offered = made 95 300 100 Below ∷ None ∷ made 95 10 5 Above ∷ made 96 10 9 Above ∷ made 50 4 1 Inconclusive ∷ made 50 8 2 Inconclusive ∷ made 95 2 1 Above ∷ []

-- the unknown level is not added
added : added_of offered ≡ made 95 300 100 Below ∷ None ∷ made 95 10 5 Above ∷ made 50 4 1 Inconclusive ∷ made 50 8 2 Inconclusive ∷ made 95 2 1 Above ∷ []
unfolding offered made added_of added_from admitted level_of
added = refl

-- the first half leads, at place 2: the one that was refused is counted, the later half is a tie. At 95 one is below and two are above; at 50 two are inconclusive.
tallied : Tally
tallied = record {
  counts = 0 ∷ 0 ∷ 0 ∷ 1 ∷ 0 ∷ 2 ∷ 0 ∷ 0 ∷ 0 ∷ 0 ∷ 0 ∷ 0 ∷ 0 ∷ 0 ∷ 0 ∷ 0 ∷ 0 ∷ 0 ∷ 0 ∷ 0 ∷ 0 ∷ 0 ∷ 0 ∷ 0 ∷ 0 ∷ 2 ∷ 0 ∷ [];
  books = 324;
  limits = 109;
  refused = 1;
  added = 6;
  worst = 2;
  worst_limit = 5;
  worst_book = 10;
}

comes_to : tally_of offered ≡ tallied
unfolding tallied offered made tally_of tally_from add_of judged_of at_level settled_of with_judged with_not_judged level_of cell_of leads_of passes_of exceeds no_tally
comes_to = refl

-- of an outcome, whether it is refused and by which number
refusal : Outcome Tally → ℕ
refusal (accepted t) = 0
refusal (refused number place) = number

shown : ℕ → ℕ → ℕ → ℕ → Tally
shown books limits apart all = record { counts = replicate 27 0; books = books; limits = limits; refused = apart; added = all; worst = 0; worst_limit = 0; worst_book = 0 }

-- 27 before 1, 1 before 5, 5 before 28, and each sum at its limit and one past it; a tally made by hand is answered too
answered : (refusal (add_of (shown 0 0 0 1000000) (made 96 0 1 Below)) ≡ 27)
    × (refusal (add_of (shown 0 0 0 1000000) None) ≡ 27)
    × (refusal (add_of (shown 0 0 0 999999) None) ≡ 0)
    × (refusal (add_of (shown 0 0 1000000 1) None) ≡ 27)
    × (refusal (add_of tallied (made 96 0 1 Below)) ≡ 1)
    × (refusal (add_of tallied (made 95 0 18446744073709551615 Below)) ≡ 5)
    × (refusal (add_of tallied (made 95 1 18446744073709551507 Below)) ≡ 28)
    × (refusal (add_of tallied (made 95 1 18446744073709551506 Below)) ≡ 0)
    × (refusal (add_of (shown 18446744073709551615 0 0 1) (made 95 1 0 Below)) ≡ 28)
    × (refusal (add_of (shown 18446744073709551614 0 0 1) (made 95 1 0 Below)) ≡ 0)
unfolding refusal shown tallied made add_of judged_of at_level settled_of with_judged with_not_judged level_of cell_of leads_of passes_of exceeds
answered = (refl, refl, refl, refl, refl, refl, refl, refl, refl, refl)
