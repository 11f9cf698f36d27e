-- The blocks of a room, and the refusals 2, 13 and 21, as the code meets them. Assumes nothing.
use Prim.Native.Nat.{ℕ, ◌+◌, ◌*◌, ◌/◌, ◌^◌, ◌≤◌, ◌<◌}
use mathlib.Core.Path.{◌≡◌, sym}
use mathlib.Core.List.{List}
use native.Mathlib.Omega.{arith}
use borrow.Author.Tests.{ltb-false, eqb-true, le-ltb, eq-eqb}
use lib.Dec.{ltb, eqb}
use lib.ListN.{length, take}
use lib.Seq.{length-take-le}
use Rattle.terms.specs.Outcome.{accepted}
use Rattle.terms.specs.Numbers.{div_up}
use Rattle.terms.proofs.Outcomes.{never}
use Rattle.terms.proofs.Tests.{by_test}
use Rattle.totals.specs.Summary.{blocks, shape_of}

-- they are few, they hold the room, and the block of a line is among them
pub blocks_few : (room : ℕ) → room < 2 ^ 64 → blocks room ≤ 2 ^ 56
unfolding blocks div_up
blocks_few room h = omega arith

pub blocks_hold : (room : ℕ) → room ≤ blocks room * 256
unfolding blocks div_up
blocks_hold room = omega arith

pub block_within : (room line : ℕ) → line < room → line / 256 < blocks room
unfolding blocks div_up
block_within room line h = omega arith

pub block_at_most : (room line : ℕ) → line ≤ room → line / 256 ≤ blocks room
unfolding blocks div_up
block_at_most room line h = omega arith

-- what an accepted shape gives
pub record InShape (most count room beside many : ℕ) : Type 0 where
  pub few : count ≤ most
  pub inside : count ≤ room
  pub are : many ≡ blocks room
  pub long : beside ≡ many + 1

pub in_shape : (most count room beside many : ℕ) → shape_of most count room beside ≡ accepted many → InShape most count room beside many
unfolding shape_of
in_shape most count room beside many =
    by_test (λ o. o ≡ accepted many → InShape most count room beside many) (ltb most count) (λ p e. never e)
    (λ p. by_test (λ o. o ≡ accepted many → InShape most count room beside many) (ltb room count) (λ q e. never e)
    (λ q. by_test (λ o. o ≡ accepted many → InShape most count room beside many) (eqb beside (blocks room + 1))
    (λ t e. let same : blocks room ≡ many = cc in
    let length = eqb-true beside (blocks room + 1) t in
    record { few = ltb-false _ _ p; inside = ltb-false _ _ q; are = sym same; long = omega arith })
    (λ t e. never e)))

pub judged_shape : {most count room beside many : ℕ} → accepted many ≡ shape_of most count room beside → InShape most count room beside many
judged_shape e = in_shape _ _ _ _ _ (sym e)

-- a shape that is right is accepted
pub right_shape : (most count room beside : ℕ) → count ≤ most → count ≤ room → beside ≡ blocks room + 1 → accepted (blocks room) ≡ shape_of most count room beside
unfolding shape_of
right_shape most count room beside few inside long = simp (le-ltb _ _ few, le-ltb _ _ inside, eq-eqb _ _ long)

module _ (most count many beside : ℕ) (room : List ℕ) (shape : accepted many ≡ shape_of most count (length room) beside) where
  -- the lines in use, as a part that is lent
  pub lines_long : count ≡ length (take count room)
  lines_long = sym (length-take-le count room (judged_shape shape).inside)

  -- the blocks' figures, or fewer of them
  pub figures_few : (long : ℕ) → length room < 2 ^ 64 → long ≤ many → long ≤ 2 ^ 56
  figures_few long wide few = omega (arith, (judged_shape shape).are, blocks_few (length room) wide)
