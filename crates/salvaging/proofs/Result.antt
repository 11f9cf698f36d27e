-- The file that a run and a Z make: what follows a run does not decide it, so it stands there too; and with a right Z it reads. Assumes nothing.
use Prim.Native.Nat.{ℕ, ◌+◌, ◌-◌, ◌≤◌}
use mathlib.Core.Path.{◌≡◌, refl, ap, subst, sym, ◌∙◌}
use mathlib.Core.Bool.{Bool, true}
use mathlib.Core.List.{List, ◌++◌}
use native.Mathlib.Omega.{arith}
use borrow.Author.Tests.{eq-eqb}
use lib.ListN.{length, get_or, take, drop, length-append, length-drop}
use lib.Seq.{get_or-take, take_at, length-take-le}
use Rattle.terms.specs.Outcome.{accepted, refused}
use Rattle.terms.specs.Numbers.{pick}
use Rattle.workfile.specs.Numbers.{Bytes}
use Rattle.workfile.specs.Content.{Content, bytes_of, closing}
use Rattle.workfile.specs.Decode.{size, is_end, record_at, tally_of, fits, grow, has_plan, plan_of, start, decode, reads_on}
use Rattle.workfile.specs.declared.Plan.{Plan}
use Rattle.workfile.specs.declared.FileRecord.{FileRecord}
use Rattle.workfile.proofs.Records.{Good, length_record}
use Rattle.workfile.proofs.Placed.{record_there, last_there, good_at, take_record}
use Rattle.workfile.proofs.Rules.{rule, fitted}
use Rattle.workfile.proofs.Longest.{plan_cut}
use Rattle.workfile.proofs.Stopping.{has_plan_lem, plan_long, ends}
use Rattle.salvaging.specs.Salvage.{Run, plan_first, and_then, with_end}
use Rattle.salvaging.proofs.Runs.{goes_on_lem, plan_is, ran}

-- P, with other bytes after it
plan_stays : (f rest : List ℕ) → has_plan f ≡ true → Run (take 18 f ++ rest) 1 (start (plan_of f)) 18
plan_stays f rest h =
    let g = take 18 f ++ rest in
    let n = length-take-le 18 f (plan_long f h) in
    let same : take 18 g ≡ take 18 f = take_at (take 18 f) rest 18 n in
    let kind : get_or g 0 0 ≡ 0x50 = sym (get_or-take 18 g 0 0 (omega arith)) ∙ ap (λ (l : List ℕ). get_or l 0 0) same ∙ get_or-take 18 f 0 0 (omega arith) ∙ plan_is f h in
    let long : 18 ≤ length g = omega (arith, length-append (take 18 f) rest) in
    let plan : plan_of g ≡ plan_of f = sym (plan_cut 18 g (omega arith)) ∙ ap plan_of same ∙ plan_cut 18 f (omega arith) in
    subst (λ (x : Plan). Run g 1 (start x) 18) plan (plan_first (has_plan_lem g long kind))

-- a run, with other bytes after it
pub run_stays : {f : List ℕ} {n : ℕ} {c : Content} {at : ℕ} → Bytes f → Run f n c at → (rest : List ℕ) → Run (take at f ++ rest) n c at
run_stays {f} b (plan_first h) rest = plan_stays f rest h
run_stays {f} b (and_then {n} {c} {at} p e) rest =
    let r = record_at f at in
    let t = tally_of c in
    let g = take at f ++ (bytes_of r ++ rest) in
    let same : record_at g at ≡ r = record_there f at r rest (ran p).place.within (good_at f b at t (rule t r (goes_on_lem t r e).0)) in
    let more = and_then (run_stays b p (bytes_of r ++ rest)) (ap (reads_on t) same ∙ e) in
    subst (λ (l : List ℕ). Run l (n + 1) (grow c r) (at + size r)) (take_record f b at rest)
    (subst (λ (x : FileRecord). Run g (n + 1) (grow c x) (at + size x)) same more)

-- a run that ends before a right Z, which is last, reads
closed_run : {g : List ℕ} {n : ℕ} {c : Content} {at : ℕ} → Run g n c at → record_at g at ≡ closing c → length g - at ≡ 13 → decode g ≡ accepted (grow c (closing c))
closed_run {g} {n} {c} {at} p is last =
    let t = tally_of c in
    let q = ran p in
    ends q.plan q.place (ap (fits t) is ∙ fitted t (closing c) (refl, refl)) (ap is_end is)
    ∙ ap (λ (b : Bool). pick b (accepted (grow c (record_at g at))) (refused 17 (at + 13))) (eq-eqb (length (drop at g)) 13 (length-drop at g ∙ last))
    ∙ ap (λ (z : FileRecord). accepted (grow c z)) is

-- the file of any run, with a right Z
module _ {f : List ℕ} {n : ℕ} {c : Content} {at : ℕ} (p : Run f n c at) where
  pub length_with : (z : FileRecord) → length (with_end f at z) ≡ at + size z
  unfolding with_end
  length_with z = omega (arith, length-append (take at f) (bytes_of z), length-take-le at f (ran p).place.within, length_record z)

  good_closing : Good (closing c)
  good_closing = let s = (ran p).so_far in (omega (arith, s.few_lines), omega (arith, s.total))

  pub closing_there : record_at (with_end f at (closing c)) at ≡ closing c
  unfolding with_end
  closing_there = last_there f at (closing c) (ran p).place.within good_closing

  pub run_with : Bytes f → Run (with_end f at (closing c)) n c at
  unfolding with_end
  run_with b = run_stays b p (bytes_of (closing c))

  pub reads_with : Bytes f → decode (with_end f at (closing c)) ≡ accepted (grow c (closing c))
  reads_with b = closed_run (run_with b) closing_there (omega (arith, length_with (closing c)))
