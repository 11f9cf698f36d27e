-- The answer from both kinds. Assumes nothing.
use Prim.Native.Nat.{◌+◌, ◌^◌, ◌<◌}
use native.Mathlib.Omega.{arith}
use mathlib.Core.Path.{◌≡◌, ◌∙◌}
use mathlib.Core.Bool.{false}
use lib.IntN.{ℤ, pos, ◌-ℤ◌}
use lib.Signed.{mag}
use mir.Syntax.{w64}
use mir.Val as val
use Rattle.signed.proofs.Laws.{most_size_lem}
use Rattle.signed.proofs.Signs.{held, kept}
use Rattle.project.specs.declared.Sums.{Sums}
use Rattle.project.specs.declared.Projection.{Projection}
use Rattle.project.specs.Project.{projection_of}
use Rattle.project.specs.Gather.{Small}

-- both sums of a kind, added, fit
pub sums_fit : {sums : Sums} → Small sums → val.Fits w64 (sums.full + sums.sampled)
sums_fit small = record { fits = omega (arith, small.small, most_size_lem false) }

-- and both kinds make the answer; the net is read from its bits
pub is_projection : (over under : Sums) (net : ℤ) → mag net < 2 ^ 63 → net ≡ pos (over.full + over.sampled) -ℤ pos (under.full + under.sampled) → ◌≡◌ {A = Projection}
    (record { full = over.full; sampled = over.sampled; m = over.m; under_full = under.full; under_sampled = under.sampled; net = held net })
    (projection_of over under)
is_projection over under net fits is = λ i.
    record { full = over.full; sampled = over.sampled; m = over.m; under_full = under.full; under_sampled = under.sampled; net = (kept net fits ∙ is) i }
