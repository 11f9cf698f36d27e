-- A pass over a file, record by record: where it stands, where it stops, and what the file then is. Assumes nothing.
use Prim.Native.Nat.{ℕ, zero, suc, ◌+◌, ◌-◌, ◌<◌, ◌≤◌}
use mathlib.Core.Path.{◌≡◌, refl, ap, subst, sym, ◌∙◌}
use mathlib.Core.Bool.{Bool, true, false, ◌&&◌, not}
use mathlib.Core.List.{List}
use native.Mathlib.Omega.{arith}
use lib.Dec.{eqb, leb}
use lib.ListN.{length, get_or, drop, length-drop}
use lib.Seq.{drop-drop}
use borrow.Author.Tests.{eqb-true, leb-true, le-leb, lt-leb, ne_eqb}
use Rattle.terms.specs.Outcome.{refused}
use Rattle.terms.specs.Numbers.{pick}
use Rattle.terms.proofs.Tests.{by_test}
use Rattle.workfile.specs.Content.{Content}
use Rattle.workfile.specs.Decode.{size, is_end, record_at, tally_of, fits, grow, closed, run, has_plan, plan_of, start, decode, Stop, reads_on, stop, stop_in, decided}
use Rattle.workfile.specs.declared.FileRecord.{FileRecord}
use Rattle.workfile.proofs.Records.{whole_size}
use Rattle.workfile.proofs.Rules.{both, rule, some_size, is_end_lem}

pub size_at : (f : List ℕ) (at : ℕ) → size (record_at f at) ≤ length f - at
unfolding record_at
size_at f at = rw length-drop at (whole_size (drop at f))

&&-false : (b : Bool) → (b && false) ≡ false
&&-false true = refl
&&-false false = refl

-- whether P stands first
module _ (f : List ℕ) where
  pub has_plan_lem : 18 ≤ length f → get_or f 0 0 ≡ 0x50 → has_plan f ≡ true
  has_plan_lem l k = rw (k, le-leb 18 (length f) l)

  pub short_plan : length f < 18 → has_plan f ≡ false
  short_plan l = rw (lt-leb 18 (length f) l) (&&-false (eqb (get_or f 0 0) 0x50))

  pub other_kind : (get_or f 0 0 ≡ 0x50 → ⊥) → has_plan f ≡ false
  other_kind k = rw (ne_eqb (get_or f 0 0) 0x50 k)

pub plan_long : (f : List ℕ) → has_plan f ≡ true → 18 ≤ length f
plan_long f h = (both (eqb (get_or f 0 0) 0x50) (leb 18 (length f)) (eqb-true (get_or f 0 0) 0x50) (leb-true 18 (length f)) h).1

pub end_at_size : (f : List ℕ) (at : ℕ) → is_end (record_at f at) ≡ true → 13 ≤ length f - at
end_at_size f at i = let z = is_end_lem (record_at f at) i in omega (arith, size_at f at, ap size z.2)

-- one step of each run, at a place of a file
module _ (f : List ℕ) (at k : ℕ) (c : Content) where
  abbrev r : FileRecord
  r = record_at f at

  stop_step : stop (suc k) c at (drop at f) ≡ pick (reads_on (tally_of c) r) (stop k (grow c r) (at + size r) (drop (at + size r) f)) (record { read = c; at = at })
  unfolding stop record_at
  stop_step = ap (λ (l : List ℕ). pick (reads_on (tally_of c) r) (stop k (grow c r) (at + size r) l) (record { read = c; at = at })) (drop-drop (size r) at f)

  run_step : run (suc k) c at (drop at f)
      ≡ pick (fits (tally_of c) r) (pick (is_end r) (closed (grow c r) at (drop at f)) (run k (grow c r) (at + size r) (drop (at + size r) f))) (refused 17 at)
  unfolding run record_at
  run_step =
      ap (λ (l : List ℕ). pick (fits (tally_of c) r) (pick (is_end r) (closed (grow c r) at (drop at f)) (run k (grow c r) (at + size r) l)) (refused 17 at))
      (drop-drop (size r) at f)

-- what the record there decides
module _ (f : List ℕ) (s : Stop) where
  pub decided_end : fits (tally_of s.read) (record_at f s.at) ≡ true → decided f s ≡ closed (grow s.read (record_at f s.at)) s.at (drop s.at f)
  unfolding decided
  decided_end h = rw h

  pub decided_bad : fits (tally_of s.read) (record_at f s.at) ≡ false → decided f s ≡ refused 17 s.at
  unfolding decided
  decided_bad h = rw h refl

-- the run of a file is decided where it stops
run_decided : (k : ℕ) (c : Content) (at : ℕ) (f : List ℕ) → length f - at < k → at ≤ length f → run k c at (drop at f) ≡ decided f (stop k c at (drop at f))
run_decided zero c at f h w = absurd (omega arith)
run_decided (suc k) c at f h w =
    let r = record_at f at in
    let small = size_at f at in
    let later = run_decided k (grow c r) (at + size r) f in
    run_step f at k c
    ∙ by_test (λ o. o ≡ decided f (pick (reads_on (tally_of c) r) (stop k (grow c r) (at + size r) (drop (at + size r) f)) (record { read = c; at = at })))
    (fits (tally_of c) r)
    (λ p. rw p (by_test (λ o. o ≡ decided f (pick (not (is_end r)) (stop k (grow c r) (at + size r) (drop (at + size r) f)) (record { read = c; at = at })))
    (is_end r) (λ q. rw q (sym (decided_end f (record { read = c; at = at }) p)))
    (λ q. rw q (later (omega (arith, some_size (tally_of c) r (rule (tally_of c) r p))) (omega arith)))))
    (λ p. rw p (sym (decided_bad f (record { read = c; at = at }) p)))
    ∙ sym (ap (decided f) (stop_step f at k c))

-- so the rules of `decode` are those of the longest run and of the record after it
pub decode_decided : (f : List ℕ) → has_plan f ≡ true → decode f ≡ decided f (stop_in f)
unfolding decode stop_in
decode_decided f h = let l = plan_long f h in rw h (run_decided (length f) (start (plan_of f)) 18 f (omega arith) l)

pub no_plan : (f : List ℕ) → has_plan f ≡ false → decode f ≡ refused 17 0
unfolding decode
no_plan f h = rw h

-- c was read of f up to at, and the rest decides
pub record ReadTo (f : List ℕ) (at : ℕ) (c : Content) : Type 0 where
  pub fuel : ℕ
  pub within : at ≤ length f
  pub enough : length f - at < fuel
  pub same : stop_in f ≡ stop fuel c at (drop at f)

pub plan_read : (f : List ℕ) → 18 ≤ length f → ReadTo f 18 (start (plan_of f))
unfolding stop_in
plan_read f h = record { fuel = length f; within = h; enough = omega arith; same = refl }

-- one record on
pub read_on : {f : List ℕ} {at : ℕ} {c : Content} → ReadTo f at c → fits (tally_of c) (record_at f at) ≡ true → is_end (record_at f at) ≡ false
    → ReadTo f (at + size (record_at f at)) (grow c (record_at f at))
read_on {f} {at} {c} p g i = go p.fuel p.enough p.same
  where
    go : (k : ℕ) → length f - at < k → stop_in f ≡ stop k c at (drop at f) → ReadTo f (at + size (record_at f at)) (grow c (record_at f at))
    go zero n s = absurd (omega arith)
    go (suc k) n s =
        record {
          fuel = k;
          within = omega (arith, size_at f at, p.within);
          enough = omega (arith, size_at f at, some_size (tally_of c) (record_at f at) (rule (tally_of c) (record_at f at) g), p.within);
          same = s ∙ stop_step f at k c ∙ rw (g, i);
        }

-- where it stops
pub stops : {f : List ℕ} {at : ℕ} {c : Content} → ReadTo f at c → reads_on (tally_of c) (record_at f at) ≡ false → stop_in f ≡ record { read = c; at = at }
stops {f} {at} {c} p g = go p.fuel p.enough p.same
  where
    go : (k : ℕ) → length f - at < k → stop_in f ≡ stop k c at (drop at f) → stop_in f ≡ record { read = c; at = at }
    go zero n s = absurd (omega arith)
    go (suc k) n s = s ∙ stop_step f at k c ∙ rw g

-- what the file is where a pass has read c: it breaks a rule at the next record, or Z closes it
module _ {f : List ℕ} {at : ℕ} {c : Content} (plan : has_plan f ≡ true) (place : ReadTo f at c) where
  pub breaks : fits (tally_of c) (record_at f at) ≡ false → decode f ≡ refused 17 at
  breaks g = decode_decided f plan ∙ ap (decided f) (stops place (rw g)) ∙ decided_bad f (record { read = c; at = at }) g

  pub ends : fits (tally_of c) (record_at f at) ≡ true → is_end (record_at f at) ≡ true → decode f ≡ closed (grow c (record_at f at)) at (drop at f)
  ends g i = decode_decided f plan ∙ ap (decided f) (stops place (rw (g, i))) ∙ decided_end f (record { read = c; at = at }) g

-- where it stops there is a place of the file, and no record that goes on
pub record Halts (f : List ℕ) (s : Stop) : Type 0 where
  pub within : s.at ≤ length f
  pub done : reads_on (tally_of s.read) (record_at f s.at) ≡ false

halts : (k : ℕ) (c : Content) (at : ℕ) (f : List ℕ) → length f - at < k → at ≤ length f → Halts f (stop k c at (drop at f))
halts zero c at f h w = absurd (omega arith)
halts (suc k) c at f h w =
    let r = record_at f at in
    let small = size_at f at in
    let later = halts k (grow c r) (at + size r) f in
    subst (Halts f) (sym (stop_step f at k c))
    (by_test (Halts f) (reads_on (tally_of c) r)
    (λ g. later (omega (arith, some_size (tally_of c) r (rule (tally_of c) r (both _ _ (λ e. e) (λ e. e) g).0))) (omega arith))
    (λ g. record { within = w; done = g }))

pub halts_in : (f : List ℕ) → has_plan f ≡ true → Halts f (stop_in f)
unfolding stop_in
halts_in f h = let l = plan_long f h in halts (length f) (start (plan_of f)) 18 f (omega arith) l

-- what holds where a pass stands, and is kept by each record that it reads, holds where it stops
module _ (f : List ℕ) (P : Content → ℕ → Type 0)
    (on : (c : Content) (at : ℕ) → P c at → reads_on (tally_of c) (record_at f at) ≡ true → P (grow c (record_at f at)) (at + size (record_at f at))) where
  holds_on : (k : ℕ) (c : Content) (at : ℕ) → P c at → P (stop k c at (drop at f)).read (stop k c at (drop at f)).at
  unfolding stop
  holds_on zero c at p = p
  holds_on (suc k) c at p =
      let r = record_at f at in
      subst (λ (s : Stop). P s.read s.at) (sym (stop_step f at k c))
      (by_test (λ (s : Stop). P s.read s.at) (reads_on (tally_of c) r) (λ g. holds_on k (grow c r) (at + size r) (on c at p g)) (λ _. p))

  pub holds_to_the_stop : {at : ℕ} {c : Content} → ReadTo f at c → P c at → P (stop_in f).read (stop_in f).at
  holds_to_the_stop {at} {c} here p = subst (λ (s : Stop). P s.read s.at) (sym here.same) (holds_on here.fuel c at p)
