-- The first pass, record by record: where it stands, where it stops, and what that says of the file. Assumes nothing.
use Prim.Native.Nat.{ℕ, ◌+◌, ◌-◌, ◌<◌, ◌≤◌}
use mathlib.Core.Path.{◌≡◌, refl, ap, ap₂, subst, sym, ◌∙◌}
use mathlib.Core.Bool.{Bool, true, false}
use mathlib.Core.List.{List}
use native.Mathlib.Omega.{arith}
use lib.Dec.{eqb}
use lib.ListN.{length, get_or, drop, length-drop}
use borrow.Author.Tests.{eq-eqb, ne_eqb}
use Rattle.terms.specs.Outcome.{accepted, refused}
use Rattle.terms.specs.Numbers.{pick}
use Rattle.terms.proofs.Tests.{by_test}
use Rattle.workfile.specs.Content.{Content}
use Rattle.workfile.specs.Decode.{record_at, tally_of, fits, grow, closed, has_plan, plan_of, start, decode, reads_on, stop_in}
use Rattle.workfile.specs.declared.Tally.{Tally}
use Rattle.workfile.specs.declared.FileRecord.{FileRecord}
use Rattle.workfile.proofs.Rules.{rule, some_size, is_last}
use Rattle.workfile.proofs.Growing.{SoFar, at_first, one_more}
use Rattle.workfile.proofs.Stopping.{end_at_size, has_plan_lem, short_plan, other_kind, ReadTo, plan_read, read_on, stops, no_plan, decode_decided, decided_end, decided_bad, halts_in}
use Rattle.records.specs.Judging.{judged}
use Rattle.records.specs.declared.Judged.{Judged}
use Rattle.records.specs.declared.Judged.TheVariants.{Next, Last, Bad}
use Rattle.records.proofs.Judging.{went, ended, barred}
use Rattle.records.proofs.Counting.{tally_grow}
use Rattle.reader.specs.Steps.{Opened, stopped_at, stopped_in, check_of}
use Rattle.reader.specs.declared.Stopped.{Stopped}

-- nothing is counted
abbrev pub none_counted : Tally
none_counted = record { words = 0; lines = 0; sum = 0; next_line = 0 }

abbrev pub NoneCounted : Tally → Type 0
NoneCounted t = (t.words ≡ 0) × ((t.lines ≡ 0) × ((t.sum ≡ 0) × (t.next_line ≡ 0)))

at_none : {t : Tally} → NoneCounted t → none_counted ≡ t
at_none n = λ i. record { words = sym n.0 i; lines = sym n.1.0 i; sum = sym n.1.1.0 i; next_line = sym n.1.1.1 i }

-- no P
not_begun : (f : List ℕ) {s : Stopped} → (s.at ≡ 0) × (NoneCounted s.tally × (s.ends ≡ false)) → has_plan f ≡ false → s ≡ stopped_in f
unfolding stopped_in
not_begun f n h = sym (rw h (λ i. record { at = sym n.0 i; tally = at_none n.1.0 i; ends = sym n.1.1 i }))

pub too_short : (f : List ℕ) {s : Stopped} → (s.at ≡ 0) × (NoneCounted s.tally × (s.ends ≡ false)) → length f < 18 → s ≡ stopped_in f
too_short f n h = not_begun f n (short_plan f h)

pub not_plan : (f : List ℕ) {s : Stopped} → (s.at ≡ 0) × (NoneCounted s.tally × (s.ends ≡ false)) → (get_or f 0 0 ≡ 0x50 → ⊥) → s ≡ stopped_in f
not_plan f n h = not_begun f n (other_kind f h)

-- where a pass stands that has read c and counted t
pub record Stands (f : List ℕ) (at : ℕ) (t : Tally) (c : Content) : Type 0 where
  pub tally : tally_of c ≡ t
  pub so_far : SoFar c
  pub plan : has_plan f ≡ true
  pub place : ReadTo f at c

pub record Passing (f : List ℕ) (at : ℕ) (t : Tally) : Type 0 where
  pub read : Content
  pub stands : Stands f at t read

pub at_plan : (f : List ℕ) {t : Tally} → 18 ≤ length f → get_or f 0 0 ≡ 0x50 → NoneCounted t → Stands f 18 t (start (plan_of f))
at_plan f l k n = record { tally = at_none n; so_far = at_first (plan_of f); plan = has_plan_lem f l k; place = plan_read f l }

pub begun : {f : List ℕ} {t : Tally} → Opened f → NoneCounted t → Passing f 18 t
begun {f} o n = record { read = start (plan_of f); stands = at_plan f o.long o.kind n }

-- the judgement at hand is that of the record there
module _ {f : List ℕ} {at : ℕ} {t : Tally} {c : Content} (here : Stands f at t c) {r : FileRecord} {j : Judged} (found : r ≡ record_at f at) (judgement : j ≡ judged t r) where
  pub judged_there : j ≡ judged (tally_of c) (record_at f at)
  judged_there = judgement ∙ ap₂ judged (sym here.tally) found

  -- one record on
  pub one_on : {u : Tally} {n : ℕ} → j ≡ Next u n → Stands f (at + n) u (grow c (record_at f at))
  one_on {u} {n} e =
      let w = went (tally_of c) (record_at f at) u n (sym judged_there ∙ e) in
      let h = rule (tally_of c) (record_at f at) w.fit in
      record {
        tally = tally_grow c (record_at f at) here.so_far h ∙ w.count;
        so_far = one_more c (record_at f at) h here.so_far;
        plan = here.plan;
        place = subst (λ (k : ℕ). ReadTo f (at + k) (grow c (record_at f at))) w.long (read_on here.place w.fit w.not_end);
      }

  pub onward : {u : Tally} {n : ℕ} → j ≡ Next u n → Passing f (at + n) u
  onward e = record { read = grow c (record_at f at); stands = one_on e }

  pub less : {u : Tally} {n : ℕ} → j ≡ Next u n → length f - (at + n) < length f - at
  less {u} {n} e =
      let w = went (tally_of c) (record_at f at) u n (sym judged_there ∙ e) in
      omega (arith, w.long, some_size (tally_of c) (record_at f at) (rule (tally_of c) (record_at f at) w.fit), (one_on e).place.within)

  -- where it stops
  stopped : (b : Bool) → fits (tally_of c) (record_at f at) ≡ b → reads_on (tally_of c) (record_at f at) ≡ false → record { at = at; tally = t; ends = b } ≡ stopped_in f
  unfolding stopped_in
  stopped b g h =
      let q : stopped_at f (record { read = c; at = at }) ≡ record { at = at; tally = t; ends = b } = λ i. record { at = at; tally = here.tally i; ends = g i } in
      rw here.plan (sym (ap (stopped_at f) (stops here.place h) ∙ q))

  pub at_end : j ≡ Last → record { at = at; tally = t; ends = true } ≡ stopped_in f
  at_end e = let x = ended (tally_of c) (record_at f at) (sym judged_there ∙ e) in stopped true x.fit (rw (x.fit, x.is_last))

  pub at_fault : ((u : Tally) (n : ℕ) → j ≡ Next u n → ⊥) → (j ≡ Last → ⊥) → record { at = at; tally = t; ends = false } ≡ stopped_in f
  at_fault no_step no_end = let x = barred (tally_of c) (record_at f at) (sym judged_there ∙ bad j refl) in stopped false x (rw x)
    where
      bad : (x : Judged) → j ≡ x → j ≡ Bad
      bad (Next u n) is = absurd (no_step u n is)
      bad Last is = absurd (no_end is)
      bad Bad is = is

-- what that says of the file
module _ (f : List ℕ) (s : Stopped) (is : s ≡ stopped_in f) where
  -- one case where P stands first, and one where it does not
  by_plan : (P : Stopped → Type 0) → (has_plan f ≡ true → P (stopped_at f (stop_in f)))
      → (has_plan f ≡ false → P (record { at = 0; tally = none_counted; ends = false })) → P s
  unfolding stopped_in
  by_plan P there none = subst P (sym is) (by_test P (has_plan f) there none)

  pub passed : has_plan f ≡ true → s ≡ stopped_at f (stop_in f)
  unfolding stopped_in
  passed h = is ∙ rw h

  pub none_passed : has_plan f ≡ false → s.at ≡ 0
  unfolding stopped_in
  none_passed h = ap (λ (x : Stopped). x.at) is ∙ rw h

  pub within : s.at ≤ length f
  within = by_plan (λ x. x.at ≤ length f) (λ h. (halts_in f h).within) (λ h. omega arith)

  pub breaks_there : s.ends ≡ false → refused 17 s.at ≡ check_of (decode f)
  breaks_there =
      by_plan (λ x. x.ends ≡ false → refused 17 x.at ≡ check_of (decode f))
      (λ h g. sym (ap check_of (decode_decided f h ∙ decided_bad f (stop_in f) g))) (λ h g. sym (ap check_of (no_plan f h)))

  -- Z that the rules allow
  ended_there : s.ends ≡ true → (c : Content) × (decode f ≡ closed c s.at (drop s.at f)) × (13 ≤ length f - s.at)
  ended_there =
      by_plan (λ x. x.ends ≡ true → (c : Content) × (decode f ≡ closed c x.at (drop x.at f)) × (13 ≤ length f - x.at))
      (λ h g. let z = stop_in f in
      let r = record_at f z.at in
      (grow z.read r, decode_decided f h ∙ decided_end f z g, end_at_size f z.at (is_last (tally_of z.read) r (halts_in f h).done g)))
      (λ h g. absurd (let z : ◌≡◌ {A = ℕ} 0 1 = cc in omega arith))

  pub z_whole : s.ends ≡ true → s.at + 13 ≤ length f
  z_whole e = omega (arith, (ended_there e).2)

  closed_there : s.ends ≡ true → (b : Bool) → eqb (length f - s.at) 13 ≡ b → pick b (accepted tt) (refused 17 (s.at + 13)) ≡ check_of (decode f)
  closed_there e b l =
      let x = ended_there e in
      sym (ap check_of x.1 ∙ ap (λ (n : ℕ). check_of (pick (eqb n 13) (accepted x.0) (refused 17 (s.at + 13)))) (length-drop s.at f)
      ∙ ap (λ (t : Bool). check_of (pick t (accepted x.0) (refused 17 (s.at + 13)))) l ∙ go b)
    where
      go : (t : Bool) → check_of (pick t (accepted (ended_there e).0) (refused 17 (s.at + 13))) ≡ pick t (accepted tt) (refused 17 (s.at + 13))
      go true = refl
      go false = refl

  pub closes : s.ends ≡ true → length f - s.at ≡ 13 → accepted tt ≡ check_of (decode f)
  closes e l = closed_there e true (eq-eqb (length f - s.at) 13 l)

  pub trails : s.ends ≡ true → (length f - s.at ≡ 13 → ⊥) → refused 17 (s.at + 13) ≡ check_of (decode f)
  trails e l = closed_there e false (ne_eqb (length f - s.at) 13 l)
