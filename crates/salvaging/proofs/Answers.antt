-- The promise of the salvage, case by case, from where the reader's first pass has stopped. Assumes nothing.
use native.Mathlib.Numerals.{add-one}
use Prim.Native.Nat.{ℕ, ◌+◌, ◌-◌, ◌*◌, ◌/◌, ◌^◌, ◌<◌, ◌≤◌}
use Rattle.std.specs.Prelude.{Option, Ok, Err}
use mathlib.Core.Path.{◌≡◌, refl, ap, sym, subst, ◌∙◌}
use mathlib.Core.Bool.{Bool, true, false}
use mathlib.Core.List.{List, ◌∷◌, ◌++◌, map, []}
use native.Mathlib.Omega.{arith}
use borrow.Author.Tests.{lt-ltb, le-ltb}
use lib.ListN.{length, take, drop, length-append, length-map, get_or, drop_of_length-le}
use lib.Seq.{length-take-le, drop-cons, get_or-take}
use Rattle.terms.specs.declared.Refusal.{Refusal}
use Rattle.terms.specs.declared.Refusal.TheVariants.{NoWholePlan, RoomTooShort}
use Rattle.terms.specs.Outcome.{accepted, refused_by, left}
use Rattle.workfile.specs.Numbers.{bytes}
use Rattle.workfile.specs.Content.{Content, between, bytes_of_all, error_records, plan_bytes, closing}
use Rattle.workfile.specs.Decode.{record_at, has_plan, stop_in}
use Rattle.workfile.specs.Promises.{over}
use Rattle.workfile.specs.declared.FileRecord.{FileRecord}
use Rattle.workfile.specs.declared.FileRecord.TheVariants.{Word, Value, End}
use Rattle.workfile.proofs.Growing.{front, length_between, front_short}
use Rattle.reader.specs.Steps.{stopped_at, stopped_in}
use Rattle.reader.specs.declared.Stopped.{Stopped}
use Rattle.reader.proofs.Passing.{passed, none_passed}
use Rattle.writer.specs.Parts.{lay, Laid}
use Rattle.writer.proofs.Laying.{lay_over, laid_on, long}
use Rattle.salvaging.specs.Salvage.{records_of, old_end, old_size, with_end, result_at, result_of, salvaged_at, salvaged_of, salvage_of, SalvagePromise}
use Rattle.salvaging.specs.Steps.{kept_by, Counted, Ended}
use Rattle.salvaging.specs.declared.{OldEnd.OldEnd, Salvaged.Salvaged}
use Rattle.salvaging.proofs.Runs.{ran, kept_run}
use Rattle.salvaging.proofs.Result.{length_with}
use Rattle.salvaging.proofs.Found.{old_within}

-- the records of a run, by its counts and its bytes
shares : (w v e at : ℕ) → at ≡ 18 + (9 * w + 9 * v + 13 * e) → 1 + (w + v) + (at - 18 - 9 * (w + v)) / 13 ≡ 1 + (w + v + e)
shares w v e at h = omega arith

length_kept : (c : Content) → length (between c) ≡ length c.words + length c.values + length (error_records 0 c.errors)
length_kept c =
    let w = map Word c.words in
    let v = map Value c.values in
    let e = error_records 0 c.errors in
    omega (arith, length-append (w ++ v) e, length-append w v, length-map c.words Word, length-map c.values Value)

length_of_front : (c : Content) → length (front c) ≡ 18 + (9 * length c.words + 9 * length c.values + 13 * length (error_records 0 c.errors))
length_of_front c = length-append (plan_bytes c.plan) (bytes_of_all (between c)) ∙ omega (arith, length_between c)

-- what holds where the first pass has stopped
pub record Ends (f : List ℕ) (s : Stopped) : Type 0 where
  pub within : s.at ≤ length f
  pub begun : 18 ≤ s.at
  pub counts : Counted s.at s.tally
  pub kept : kept_by s.at s.tally ≡ records_of (stop_in f).read
  pub old : old_size (old_end (record_at f s.at)) ≤ length f - s.at
  pub length_is : length (result_of f) ≡ s.at + 13

pub ends_there : (f : List ℕ) → has_plan f ≡ true → Ends f (stopped_at f (stop_in f))
unfolding kept_by result_of result_at
ends_there f h =
    let c = (stop_in f).read in
    let q = ran (kept_run f h) in
    let w = length c.words in
    let v = length c.values in
    let e = length (error_records 0 c.errors) in
    let at : (stop_in f).at ≡ 18 + (9 * w + 9 * v + 13 * e) = q.long ∙ length_of_front c in
    record {
      within = q.place.within;
      begun = omega arith;
      counts = record { room = omega arith; short = omega (arith, q.long, front_short c q.so_far) };
      kept = shares w v e (stop_in f).at at ∙ ap (λ (n : ℕ). 1 + n) (sym (length_kept c));
      old = old_within f (stop_in f).at;
      length_is = length_with (kept_run f h) (closing c);
    }

pub ends : (f : List ℕ) (s : Stopped) → Ended f s → Ends f s
ends f s e = subst (Ends f) (sym e.is) (ends_there f e.plan)

module _ {f : List ℕ} {s : Stopped} (e : Ended f s) where
  pub at_within : s.at ≤ length f
  at_within = (ends f s e).within

  pub counted_there : Counted s.at s.tally
  counted_there = (ends f s e).counts

  pub length_fits : s.at + 13 < 2 ^ 64
  length_fits = omega (arith, (ends f s e).counts.short)

-- whether a whole P stands first, by where the pass has stopped
module _ (f : List ℕ) (s : Stopped) (is : s ≡ stopped_in f) where
  by_plan : {A : Type 0} → (has_plan f ≡ true → A) → (has_plan f ≡ false → A) → A
  by_plan {A} there absent = go (has_plan f) there absent
    where
      go : (b : Bool) → (b ≡ true → A) → (b ≡ false → A) → A
      go true y n = y refl
      go false y n = n refl

  pub has_ended : (s.at ≡ 0 → ⊥) → Ended f s
  has_ended some = by_plan (λ h. record { plan = h; is = passed f s is h }) (λ h. absurd (some (none_passed f s is h)))

  pub no_whole_plan : s.at ≡ 0 → has_plan f ≡ false
  no_whole_plan none = by_plan (λ h. absurd (omega (arith, (ends f s (record { plan = h; is = passed f s is h })).begun))) (λ h. h)

-- what is said, from its parts
module _ (f : List ℕ) {s : Stopped} (e : Ended f s) where
  its_salvaged : salvaged_at f (stop_in f) ≡ record {
    length = s.at + 13;
    kept = kept_by s.at s.tally;
    dropped = length f - s.at - old_size (old_end (record_at f s.at));
    lines = s.tally.lines;
    sum = s.tally.sum;
    old = old_end (record_at f s.at);
  }
  unfolding salvaged_at result_of
  its_salvaged =
      let x = ends f s e in
      let p : stopped_at f (stop_in f) ≡ s = sym e.is in
      (λ i. record {
        length = x.length_is i;
        kept = sym x.kept i;
        dropped = length f - (p i).at - old_size (old_end (record_at f (p i).at));
        lines = (p i).tally.lines;
        sum = (p i).tally.sum;
        old = old_end (record_at f (p i).at);
      })

  pub reported : {r : FileRecord} {old : Option OldEnd} {m k : ℕ} → r ≡ record_at f s.at → old ≡ old_end r → m ≡ old_size old → k ≡ kept_by s.at s.tally
      → record { length = s.at + 13; kept = k; dropped = length f - s.at - m; lines = s.tally.lines; sum = s.tally.sum; old = old } ≡ salvaged_of f
  unfolding salvaged_of
  reported {r} {old} {m} {k} here is n count =
      let o : old ≡ old_end (record_at f s.at) = is ∙ ap old_end here in
      let d : m ≡ old_size (old_end (record_at f s.at)) = n ∙ ap old_size o in
      (λ i. record { length = s.at + 13; kept = count i; dropped = length f - s.at - d i; lines = s.tally.lines; sum = s.tally.sum; old = o i })
      ∙ sym its_salvaged

  pub old_fits : {r : FileRecord} {old : Option OldEnd} {m : ℕ} → r ≡ record_at f s.at → old ≡ old_end r → m ≡ old_size old → m ≤ length f - s.at
  old_fits {r} {old} {m} here is n =
      let k : m ≡ old_size (old_end (record_at f s.at)) = n ∙ ap old_size (is ∙ ap old_end here) in
      omega (arith, (ends f s e).old)

  its_result : with_end f s.at (End s.tally.lines s.tally.sum) ≡ result_of f
  unfolding result_of result_at
  its_result = ap (λ (x : Stopped). with_end f x.at (End x.tally.lines x.tally.sum)) e.is

-- the first bytes of a file, one by one
module _ (f : List ℕ) (count i : ℕ) (whole : count ≤ length f) where
  pub byte_more : i < count → drop i (take count f) ≡ (get_or f i 0 ∷ []) ++ drop (i + 1) (take count f)
  byte_more h =
      let n : i < length (take count f) = omega (arith, length-take-le count f whole) in
      rw (add-one, drop-cons (take count f) i 0 n, get_or-take count f i 0 h)

  pub byte_none : (i < count → ⊥) → drop i (take count f) ≡ []
  byte_none h = drop_of_length-le (take count f) {i = i} (omega (arith, length-take-le count f whole))

-- then Z
pub room_for_end : (f : List ℕ) (at : ℕ) {out out₁ : List ℕ} {to : ℕ} → at ≤ length f → at + 13 ≤ length out → Laid out 0 (take at f) out₁ to → to + 13 ≤ length out₁
room_for_end f at w r p = omega (arith, p.ends, long p, length-take-le at f w)

pub with_end_laid : (f : List ℕ) (at n s : ℕ) {out out₁ out₂ : List ℕ} {to end : ℕ} → Laid out 0 (take at f) out₁ to
    → Laid out₁ to (0x5A ∷ (bytes 4 n ++ bytes 8 s)) out₂ end → Laid out 0 (with_end f at (End n s)) out₂ end
unfolding with_end
with_end_laid f at n s p q = laid_on p q

-- each way out
module _ (f out : List ℕ) where
  refuse : (why : Refusal) → salvage_of f (length out) ≡ refused_by why → SalvagePromise f out (Err why) out
  refuse why q = record { answer = sym q; out_left = sym (ap (left (λ _. over (result_of f) out) out) q) }

  -- where the pass has stopped, and whether it has passed P
  module _ {s : Stopped} (is : s ≡ stopped_in f) where
    pub none_first : s.at ≡ 0 → SalvagePromise f out (Err NoWholePlan) out
    unfolding salvage_of
    none_first none = refuse NoWholePlan (rw (no_whole_plan f s is none) refl)

    pub no_room : (s.at ≡ 0 → ⊥) → length out < s.at + 13 → SalvagePromise f out (Err (RoomTooShort (s.at + 13))) out
    unfolding salvage_of
    no_room some r =
        let e = has_ended f s is some in
        refuse (RoomTooShort (s.at + 13)) (rw (e.plan, (ends f s e).length_is, lt-ltb (length out) (s.at + 13) r))

    pub salvaged : (s.at ≡ 0 → ⊥) → s.at + 13 ≤ length out → {out' : List ℕ} {m : ℕ} {said : Salvaged} → said ≡ salvaged_of f
        → Laid out 0 (with_end f s.at (End s.tally.lines s.tally.sum)) out' m → SalvagePromise f out (Ok said) out'
    unfolding salvage_of
    salvaged some r {out'} {m} {said} told w =
        let e = has_ended f s is some in
        let n = (ends f s e).length_is in
        let q : salvage_of f (length out) ≡ accepted (salvaged_of f) = rw (e.plan, n, le-ltb (length out) (s.at + 13) r) in
        let room : length (result_of f) ≤ length out = omega arith in
        record {
          answer = ap accepted told ∙ sym q;
          out_left = w.same ∙ ap (lay out 0) (its_result f e) ∙ lay_over out (result_of f) room ∙ sym (ap (left (λ _. over (result_of f) out) out) q);
        }

-- what the parts ask for, past both tests
module _ (f : List ℕ) {s : Stopped} (is : s ≡ stopped_in f) (some : s.at ≡ 0 → ⊥) where
  pub ended_so : Ended f s
  ended_so = has_ended f s is some

  pub needed_fits : s.at + 13 < 2 ^ 64
  needed_fits = length_fits ended_so

  pub run_fits : s.at ≤ length f
  run_fits = at_within ended_so
