-- A run of records from the start of a file: what holds of it, and that none is longer than the one where the reader's first pass stops. Assumes nothing.
use Prim.Native.Nat.{ℕ, ◌+◌, ◌≤◌}
use mathlib.Core.Path.{◌≡◌, refl, ap, subst, sym, ◌∙◌}
use mathlib.Core.Bool.{Bool, true, false, ◌&&◌, not}
use mathlib.Core.Logic.{◌⊎◌, inl, inr}
use mathlib.Core.List.{List, [], ◌∷◌}
use native.Mathlib.Omega.{arith}
use lib.Dec.{eqb, leb}
use borrow.Author.Tests.{eqb-true, leb-true}
use lib.ListN.{length, get_or, length-append}
use Rattle.workfile.specs.Content.{Content, between}
use Rattle.workfile.specs.Decode.{size, is_end, record_at, tally_of, fits, grow, has_plan, plan_of, reads_on, stop_in}
use Rattle.workfile.specs.declared.Tally.{Tally}
use Rattle.workfile.specs.declared.FileRecord.{FileRecord}
use Rattle.workfile.proofs.Rules.{both, rule}
use Rattle.workfile.proofs.Growing.{SoFar, at_first, one_more, between_grow, front, length_front}
use Rattle.workfile.proofs.Stopping.{plan_long, ReadTo, plan_read, read_on, halts_in, holds_to_the_stop}
use Rattle.salvaging.specs.Salvage.{Run, plan_first, and_then, records_of}

-- a record with which a run goes on, and one with which it does not
not_true : (b : Bool) → not b ≡ true → b ≡ false
not_true true e = sym e
not_true false e = refl

pub goes_on_lem : (t : Tally) (r : FileRecord) → reads_on t r ≡ true → (fits t r ≡ true) × (is_end r ≡ false)
goes_on_lem t r e = both (fits t r) (not (is_end r)) (λ p. p) (not_true (is_end r)) e

pub goes_no_further : (t : Tally) (r : FileRecord) → reads_on t r ≡ false → (fits t r ≡ false) ⊎ (is_end r ≡ true)
goes_no_further t r e = go (fits t r) (is_end r) e
  where
    go : (a b : Bool) → (a && not b) ≡ false → (a ≡ false) ⊎ (b ≡ true)
    go false b e = inl refl
    go true true e = inr refl
    go true false e = inl e

-- P stands first
pub plan_is : (f : List ℕ) → has_plan f ≡ true → get_or f 0 0 ≡ 0x50
plan_is f h = (both (eqb (get_or f 0 0) 0x50) (leb 18 (length f)) (eqb-true (get_or f 0 0) 0x50) (leb-true 18 (length f)) h).0

-- what holds where a run ends: the reader's first pass stands there too
pub record Ran (f : List ℕ) (n : ℕ) (c : Content) (at : ℕ) : Type 0 where
  pub plan : has_plan f ≡ true
  pub so_far : SoFar c
  pub place : ReadTo f at c
  pub long : at ≡ length (front c)
  pub count : n ≡ records_of c

pub ran : {f : List ℕ} {n : ℕ} {c : Content} {at : ℕ} → Run f n c at → Ran f n c at
ran {f} (plan_first h) = record { plan = h; so_far = at_first (plan_of f); place = plan_read f (plan_long f h); long = refl; count = refl }
ran {f} (and_then {n} {c} {at} p e) =
    let r = record_at f at in
    let q = ran p in
    let g = goes_on_lem (tally_of c) r e in
    let h = rule (tally_of c) r g.0 in
    record {
      plan = q.plan;
      so_far = one_more c r h q.so_far;
      place = read_on q.place g.0 g.1;
      long = ap (λ (k : ℕ). k + size r) q.long ∙ sym (length_front c r h q.so_far g.1);
      count = omega (arith, q.count, ap length (between_grow c r h q.so_far g.1), length-append (between c) (r ∷ []));
    }

-- a run by the number of its records
counted : {f : List ℕ} {n : ℕ} {c : Content} {at : ℕ} → Run f n c at → Run f (records_of c) c at
counted {f} {n} {c} {at} p = subst (λ (m : ℕ). Run f m c at) (ran p).count p

-- where the first pass stops a run ends
pub kept_run : (f : List ℕ) → has_plan f ≡ true → Run f (records_of (stop_in f).read) (stop_in f).read (stop_in f).at
kept_run f h = holds_to_the_stop f (λ c at. Run f (records_of c) c at) (λ c at p e. counted (and_then p e)) (plan_read f (plan_long f h)) (plan_first h)

-- a run that goes on from another
record Beyond (f : List ℕ) (n at : ℕ) (c : Content) (to : ℕ) : Type 0 where
  run : Run f (records_of c) c to
  more : n ≤ records_of c
  further : at ≤ to

one_beyond : (f : List ℕ) (n at : ℕ) (c : Content) (to : ℕ) → Beyond f n at c to → reads_on (tally_of c) (record_at f to) ≡ true
    → Beyond f n at (grow c (record_at f to)) (to + size (record_at f to))
one_beyond f n at c to b e =
    let p = and_then b.run e in
    record { run = counted p; more = omega (arith, (ran p).count, b.more); further = omega (arith, b.further) }

-- so no run is longer
pub longest : {f : List ℕ} {n : ℕ} {c : Content} {at : ℕ} → Run f n c at → (n ≤ records_of (stop_in f).read) × (at ≤ (stop_in f).at)
longest {f} {n} {c} {at} p =
    let q = ran p in
    let b = holds_to_the_stop f (Beyond f n at) (one_beyond f n at) q.place (record { run = counted p; more = omega (arith, q.count); further = omega arith }) in
    (b.more, b.further)

-- and the record after it is Z, or breaks a rule
pub after_it : (f : List ℕ) → has_plan f ≡ true → (fits (tally_of (stop_in f).read) (record_at f (stop_in f).at) ≡ false) ⊎ (is_end (record_at f (stop_in f).at) ≡ true)
after_it f h = goes_no_further (tally_of (stop_in f).read) (record_at f (stop_in f).at) (halts_in f h).done
