-- Runs of bytes as a loop over a list meets them. Assumes nothing.
use mathlib.Core.Path.{◌≡◌, refl, sym, ◌∙◌}
use mathlib.Core.Bool.{Bool, true, false, not}
use mathlib.Core.List.{List}
use Prim.Native.Nat.{ℕ, suc, ◌+◌, ◌≤◌, ◌<◌}
use native.Mathlib.Numerals.{add-one}
use native.Mathlib.Omega.{arith}
use lib.ListN.{length, get_or, drop, drop_of_length-le}
use lib.Seq.{drop-cons}
use Rattle.entry.specs.Text.{goes_on}
use Rattle.entry.specs.Steps.{run_of, Reached}
use Rattle.entry.specs.declared.Run.{Run}

module _ (run : Run) (text : List ℕ) (at : ℕ) where
  pub run_on : at < length text → goes_on run (get_or text at 0) ≡ true → run_of run (drop at text) ≡ suc (run_of run (drop (at + 1) text))
  unfolding run_of
  run_on h e = rw (add-one, drop-cons text at 0) (simp e)

  pub run_stops : at < length text → goes_on run (get_or text at 0) ≡ false → run_of run (drop at text) ≡ 0
  unfolding run_of
  run_stops h e = rw (drop-cons text at 0) (simp e)

  pub run_ends : length text ≤ at → run_of run (drop at text) ≡ 0
  unfolding run_of
  run_ends h = rw (drop_of_length-le text h)

pub turned : (b : Bool) → not b ≡ true → b ≡ false
turned true e = sym e
turned false e = refl

pub unturned : (b : Bool) → not b ≡ false → b ≡ true
unturned true e = refl
unturned false e = sym e

-- the loop: a run from `from` on has come to `at`
pub record Going (run : Run) (text : List ℕ) (from at : ℕ) : Type 0 where
  pub after : from ≤ at
  pub within : at ≤ length text
  pub same : at + run_of run (drop at text) ≡ from + run_of run (drop from text)

pub going_none : (run : Run) {text : List ℕ} {from : ℕ} → from ≤ length text → Going run text from from
going_none run h = record { after = omega arith; within = h; same = refl }

module _ {run : Run} {text : List ℕ} {from at : ℕ} (g : Going run text from at) where
  module _ (h : at < length text) {goes : Bool} (e : goes ≡ goes_on run (get_or text at 0)) where
    pub going_on : not goes ≡ false → Going run text from (at + 1)
    going_on f = record { after = omega arith; within = omega arith; same = omega (arith, run_on run text at h (sym e ∙ unturned goes f), g.same) }

    pub going_stops : not goes ≡ true → Reached run text from at
    going_stops t = record { after = g.after; within = g.within; same = omega (arith, run_stops run text at h (sym e ∙ turned goes t), g.same) }

  pub going_ends : length text ≤ at → Reached run text from at
  going_ends h = record { after = g.after; within = g.within; same = omega (arith, run_ends run text at h, g.same) }
