-- What the request asks of a salvage, proved of its definitions. Assumes nothing.
use Prim.Native.Nat.{ℕ, zero, suc, ◌+◌, ◌-◌, ◌/◌, ◌≤◌}
use Rattle.terms.specs.declared.Refusal.{Refusal}
use Rattle.std.specs.Prelude.{Result, Some}
use mathlib.Core.Path.{◌≡◌, refl, ap, ap₂, sym, subst, ◌∙◌}
use mathlib.Core.Bool.{Bool, true, false, ◌&&◌, not}
use mathlib.Core.Logic.{◌⊎◌}
use mathlib.Core.List.{List, [], ◌∷◌, ◌++◌}
use native.Mathlib.Omega.{arith}
use lib.Dec.{eqb, ltb}
use borrow.Author.Tests.{eqb-true, le-ltb}
use lib.ListN.{length, take, drop, take-append-drop, length-drop}
use lib.Seq.{take_at, take-take, length-take-le}
use Rattle.terms.specs.Outcome.{accepted, refused, left, says}
use Rattle.terms.specs.Numbers.{pick}
use Rattle.terms.proofs.Outcomes.{never, Gives}
use Rattle.terms.proofs.Answers.{says_once}
use Rattle.terms.proofs.Tests.{by_test}
use Rattle.workfile.specs.Numbers.{Bytes, bytes}
use Rattle.workfile.specs.Content.{Content, longest_file, bytes_of, closing}
use Rattle.workfile.specs.Decode.{is_end, record_at, tally_of, fits, grow, has_plan, decode, stop_in}
use Rattle.workfile.specs.Promises.{over}
use Rattle.workfile.specs.Rules.{Rule}
use Rattle.workfile.specs.declared.FileRecord.TheVariants.{End}
use Rattle.workfile.proofs.Placed.{take_last}
use Rattle.workfile.proofs.Rules.{rule, is_last, is_end_lem}
use Rattle.workfile.proofs.Growing.{front_short}
use Rattle.workfile.proofs.OneFile.{plan_there}
use Rattle.workfile.proofs.Stopping.{has_plan_lem, decode_decided, decided_end, decided_bad, stops, halts_in}
use Rattle.salvaging.specs.Salvage.{Run, records_of, old_end, old_size, with_end, result_at, result_of, salvaged_at, salvaged_of, salvage_of, SalvagePromise}
use Rattle.salvaging.specs.declared.{Salvaged.Salvaged}
use Rattle.salvaging.proofs.Runs.{ran, kept_run, longest, after_it}
use Rattle.salvaging.proofs.Result.{run_stays, length_with, closing_there, run_with, reads_with}
use Rattle.salvaging.proofs.Answers.{ends_there}

-- The run is kept: the rules allow each record in turn, and no run from the start has more records or reaches further.
pub record Longest (f : List ℕ) : Type 0 where
  pub run : Run f (salvaged_of f).kept (stop_in f).read (stop_in f).at
  pub most : {n : ℕ} {c : Content} {at : ℕ} → Run f n c at → (n ≤ (salvaged_of f).kept) × (at ≤ (stop_in f).at)
  pub next : (fits (tally_of (stop_in f).read) (record_at f (stop_in f).at) ≡ false) ⊎ (is_end (record_at f (stop_in f).at) ≡ true)

pub longest_kept : (f : List ℕ) → has_plan f ≡ true → Longest f
unfolding salvaged_of salvaged_at
longest_kept f h = record { run = kept_run f h; most = longest; next = after_it f h }

-- The result always reads: to what the kept records hold, where a line without E and U has error 0.
pub result_reads : (f : List ℕ) → Bytes f → has_plan f ≡ true → decode (result_of f) ≡ accepted (grow (stop_in f).read (closing (stop_in f).read))
unfolding result_of result_at
result_reads f b h = reads_with (kept_run f h) b

-- No record that the input lacks, apart from Z: before its Z the result has the input's first bytes,
pub result_front : (f : List ℕ) → has_plan f ≡ true → take (stop_in f).at (result_of f) ≡ take (stop_in f).at f
unfolding result_of result_at with_end
result_front f h = let at = (stop_in f).at in take_at (take at f) (bytes_of (closing (stop_in f).read)) at (length-take-le at f (ends_there f h).within)

-- and Z, with the count and the sum that are said, is last
pub result_end : (f : List ℕ) → has_plan f ≡ true → (record_at (result_of f) (stop_in f).at ≡ End (salvaged_of f).lines (salvaged_of f).sum) × (length (result_of f) ≡ (stop_in f).at + 13)
unfolding salvaged_of salvaged_at result_of result_at
result_end f h = (closing_there (kept_run f h), length_with (kept_run f h) (closing (stop_in f).read))

-- so a buffer of 45,663 bytes has room for every result
pub result_short : (f : List ℕ) → has_plan f ≡ true → length (result_of f) ≤ longest_file
result_short f h = let q = ran (kept_run f h) in omega (arith, (result_end f h).1, q.long, front_short (stop_in f).read q.so_far)

-- the kept run stands in the result, and its pass stops there too
result_run : (f : List ℕ) → Bytes f → has_plan f ≡ true → Run (result_of f) (records_of (stop_in f).read) (stop_in f).read (stop_in f).at
unfolding result_of result_at
result_run f b h = run_with (kept_run f h) b

ends_there_too : (t b : Bool) → b ≡ true → (t && not b) ≡ false
ends_there_too true true e = refl
ends_there_too true false e = sym e
ends_there_too false b e = refl

pub result_stop : (f : List ℕ) → Bytes f → has_plan f ≡ true → stop_in (result_of f) ≡ stop_in f
result_stop f b h =
    let c = (stop_in f).read in
    let r = record_at (result_of f) (stop_in f).at in
    stops (ran (result_run f b h)).place (ends_there_too (fits (tally_of c) r) (is_end r) (ap is_end (result_end f h).0))

-- the bytes of the result are bytes
small_append : (xs ys : List ℕ) → Bytes xs → Bytes ys → Bytes (xs ++ ys)
small_append [] ys p q i = q i
small_append (x ∷ xs) ys p q zero = p 0
small_append (x ∷ xs) ys p q (suc i) = small_append xs ys (λ j. p (suc j)) q i

small_take : (n : ℕ) (l : List ℕ) → Bytes l → Bytes (take n l)
small_take zero l b i = omega arith
small_take (suc n) [] b i = b i
small_take (suc n) (x ∷ l) b zero = b 0
small_take (suc n) (x ∷ l) b (suc i) = small_take n l (λ j. b (suc j)) i

small_number : (n x : ℕ) → Bytes (bytes n x)
small_number zero x i = omega arith
small_number (suc n) x zero = omega arith
small_number (suc n) x (suc i) = small_number n (x / 256) i

small_end : (n s : ℕ) → Bytes (bytes_of (End n s))
small_end n s zero = omega arith
small_end n s (suc i) = small_append (bytes 4 n) (bytes 8 s) (small_number 4 n) (small_number 8 s) i

pub result_bytes : (f : List ℕ) → Bytes f → Bytes (result_of f)
unfolding result_of result_at with_end
result_bytes f b = small_append (take (stop_in f).at f) (bytes_of (closing (stop_in f).read)) (small_take (stop_in f).at f b) (small_end _ _)

-- so every run of the result is a run of the input
pub no_other : (f : List ℕ) → Bytes f → has_plan f ≡ true → {n : ℕ} {c : Content} {at : ℕ} → Run (result_of f) n c at → Run f n c at
no_other f b h {n} {c} {at} p =
    let g = result_of f in
    let end = (stop_in f).at in
    let short : at ≤ end = omega (arith, (longest p).1, ap (λ s. s.at) (result_stop f b h)) in
    let same : take at g ≡ take at f = sym (take-take at end g short) ∙ ap (take at) (result_front f h) ∙ take-take at end f short in
    subst (λ (l : List ℕ). Run l n c at) (ap (λ (l : List ℕ). l ++ drop at f) same ∙ take-append-drop at f) (run_stays (result_bytes f b) p (drop at f))

-- The bytes of the run, those dropped and those of the old Z are the input's.
pub all_bytes : (f : List ℕ) → has_plan f ≡ true → (stop_in f).at + (salvaged_of f).dropped + old_size (salvaged_of f).old ≡ length f
unfolding salvaged_of salvaged_at
all_bytes f h = let q = ends_there f h in omega (arith, q.within, q.old)

-- A legal file comes out with the same bytes: nothing is dropped, and its Z is the new one.
pub record Unchanged (f : List ℕ) : Type 0 where
  pub same : result_of f ≡ f
  pub none_dropped : (salvaged_of f).dropped ≡ 0
  pub old_is_new : (salvaged_of f).old ≡ Some (record { count = (salvaged_of f).lines; sum = (salvaged_of f).sum })

-- where the pass over a legal file stops, its right Z stands, and no more
only_closed : (b : Bool) (c : Content) (n : ℕ) (d : Content) → pick b (accepted c) (refused 17 n) ≡ accepted d → b ≡ true
only_closed true c n d e = refl
only_closed false c n d e = never e

legal_end : (f : List ℕ) → has_plan f ≡ true → (d : Content) → decode f ≡ accepted d → (record_at f (stop_in f).at ≡ closing (stop_in f).read) × (length f - (stop_in f).at ≡ 13)
legal_end f h d e = go (fits (tally_of (stop_in f).read) (record_at f (stop_in f).at)) refl
  where
    go : (b : Bool) → fits (tally_of (stop_in f).read) (record_at f (stop_in f).at) ≡ b → (record_at f (stop_in f).at ≡ closing (stop_in f).read) × (length f - (stop_in f).at ≡ 13)
    go false g = never (sym (decided_bad f (stop_in f) g) ∙ sym (decode_decided f h) ∙ e)
    go true g =
        let s = stop_in f in
        let t = tally_of s.read in
        let r = record_at f s.at in
        let z = is_end_lem r (is_last t r (halts_in f h).done g) in
        let k : Rule t (End z.0 z.1) = subst (Rule t) z.2 (rule t r g) in
        let l = only_closed (eqb (length (drop s.at f)) 13) (grow s.read r) (s.at + 13) d (sym (decided_end f s g) ∙ sym (decode_decided f h) ∙ e) in
        (z.2 ∙ ap₂ End k.0 k.1, sym (length-drop s.at f) ∙ eqb-true (length (drop s.at f)) 13 l)

pub unchanged : (f : List ℕ) (d : Content) → Bytes f → decode f ≡ accepted d → Unchanged f
unfolding with_end result_of result_at salvaged_of salvaged_at old_size old_end
unchanged f d b e =
    let p = plan_there f d e in
    let q = legal_end f (has_plan_lem f p.1 p.0) d e in
    let at = (stop_in f).at in
    let o : old_end (record_at f at) ≡ old_end (closing (stop_in f).read) = ap old_end q.0 in
    let m : old_size (old_end (record_at f at)) ≡ 13 = ap old_size o in
    record { same = take_last f b at (closing (stop_in f).read) q.0 q.1; none_dropped = omega (arith, q.1); old_is_new = o }

-- so a result comes out of a second salvage as it is
pub again : (f : List ℕ) → Bytes f → has_plan f ≡ true → Unchanged (result_of f)
again f b h = unchanged (result_of f) _ (result_bytes f b) (result_reads f b h)

-- What the caller has: the buffer of an accepted call begins with the result, which reads; a refused call leaves it.
accepted_so : (f : List ℕ) (room : ℕ) (s : Salvaged) → salvage_of f room ≡ accepted s → has_plan f ≡ true
unfolding salvage_of
accepted_so f room s = by_test (λ o. o ≡ accepted s → has_plan f ≡ true) (has_plan f) (λ h _. h) (λ _ e. never e)

module _ {f out out' : List ℕ} {r : Result Salvaged Refusal} (p : SalvagePromise f out r out') where
  pub reads_back : (s : Salvaged) → Bytes f → says r ≡ accepted s → decode (take (length (result_of f)) out') ≡ accepted (grow (stop_in f).read (closing (stop_in f).read))
  reads_back s b e =
      let o : salvage_of f (length out) ≡ accepted s = sym p.answer ∙ e in
      let is : out' ≡ over (result_of f) out = p.out_left ∙ ap (left (λ _. over (result_of f) out) out) o in
      ap decode (ap (take (length (result_of f))) is ∙ take_at (result_of f) (drop (length (result_of f)) out) (length (result_of f)) refl)
      ∙ result_reads f b (accepted_so f (length out) s o)

  pub same_bytes : (d : Content) → Bytes f → decode f ≡ accepted d → length f ≤ length out → (says r ≡ accepted (salvaged_of f)) × (out' ≡ over f out)
  unfolding salvage_of
  same_bytes d b e room =
      let u = (unchanged f d b e).same in
      let h = plan_there f d e in
      let n : length (result_of f) ≤ length out = rw u room in
      let o : salvage_of f (length out) ≡ accepted (salvaged_of f) = rw (has_plan_lem f h.1 h.0, le-ltb (length out) (length (result_of f)) n) in
      (p.answer ∙ o, p.out_left ∙ ap (left (λ _. over (result_of f) out) out) o ∙ ap (λ (l : List ℕ). over l out) u)

  pub untouched : (n at : ℕ) → says r ≡ refused n at → out' ≡ out
  untouched n at e = p.out_left ∙ ap (left (λ _. over (result_of f) out) out) (sym p.answer ∙ e)

-- which refusals it gives
pub salvage_gives : (f : List ℕ) (room : ℕ) → Gives (29 ∷ 18 ∷ []) (salvage_of f room)
unfolding salvage_of
salvage_gives f room =
    by_test (Gives (29 ∷ 18 ∷ [])) (has_plan f) (λ _. by_test (Gives (29 ∷ 18 ∷ [])) (ltb room (length (result_of f))) (λ _. tt) (λ _. tt)) (λ _. tt)

-- any two results that meet the promise agree
pub salvage_once : {f out out₁ out₂ : List ℕ} {r₁ r₂ : Result Salvaged Refusal} → SalvagePromise f out r₁ out₁ → SalvagePromise f out r₂ out₂ → (r₁ ≡ r₂) × (out₁ ≡ out₂)
salvage_once {r₁} {r₂} p q =
    (says_once r₁ r₂ p.answer q.answer, p.out_left ∙ sym q.out_left)
