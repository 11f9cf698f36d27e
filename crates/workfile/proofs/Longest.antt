-- The longest legal file has 45,663 bytes, and the first 45,664 bytes of an input decide it. Assumes nothing.
use Prim.Native.Nat.{ℕ, zero, suc, ◌+◌, ◌-◌, ◌<◌, ◌≤◌}
use mathlib.Core.Path.{◌≡◌, refl, ap, ap₂, sym, ◌∙◌}
use mathlib.Core.Logic.{⊎_elim}
use mathlib.Core.List.{List}
use mathlib.Core.Bool.{Bool, true, false, ◌&&◌}
use native.Mathlib.Omega.{arith}
use lib.Dec.{eqb}
use borrow.Author.Tests.{le-leb, ne_eqb}
use lib.ListN.{length, take, drop, length-drop}
use lib.Seq.{get_or-take, length-take-le, take_all}
use Rattle.terms.specs.Outcome.{Outcome, accepted, refused}
use Rattle.terms.specs.Numbers.{pick}
use Rattle.terms.proofs.Tests.{le_or_lt}
use Rattle.workfile.specs.Numbers.{Bytes, little_endian}
use Rattle.workfile.specs.Content.{Content, longest_file, encode, Counts}
use Rattle.workfile.specs.Decode.{size, is_end, record_of, tally_of, fits, grow, closed, run, has_plan, plan_of, start, decode}
use Rattle.workfile.specs.declared.Plan.{Plan}
use Rattle.workfile.proofs.Numbers.{number_of_front}
use Rattle.workfile.proofs.Records.{whole_size, cut_record, drop_take}
use Rattle.workfile.proofs.Rules.{rule, some_size}
use Rattle.workfile.proofs.Lists.{few_errors}
use Rattle.workfile.proofs.Growing.{SoFar, at_first, one_more, front, front_short, length_front, length_encode}
use Rattle.workfile.proofs.OneFile.{one_file, read_counts, refused_so}

-- no legal file is longer
pub encode_short : (c : Content) → Counts c → length (encode c) ≤ longest_file
encode_short c k = omega (arith, length_encode c, few_errors 0 c.errors, k.few_words, k.few_lines, k.same)

pub no_longer : (f : List ℕ) (d : Content) → Bytes f → decode f ≡ accepted d → length f ≤ longest_file
no_longer f d b e = omega (arith, ap length (one_file f d b e), encode_short d (read_counts f d e))

-- so a longer input is refused
pub longer_refused : (f : List ℕ) → Bytes f → longest_file < length f → (at : ℕ) × (decode f ≡ refused 17 at)
longer_refused f b h = go (decode f) refl
  where
    go : (o : Outcome Content) → decode f ≡ o → (at : ℕ) × (decode f ≡ refused 17 at)
    go (accepted d) e = absurd (omega (arith, no_longer f d b e))
    go (refused n at) e = (at, refused_so f n at e)

-- two choices by one test are the same where their arms are
by_arms : {A : Type 0} (test : Bool) {x x' y y' : A} → (test ≡ true → x ≡ x') → (test ≡ false → y ≡ y') → pick test x y ≡ pick test x' y'
by_arms true p q = p refl
by_arms false p q = q refl

-- after Z more follows, in all the bytes and in those up to the cut
closed_cut : (c : Content) (at m : ℕ) (bs : List ℕ) → 14 ≤ m → m < length bs → closed c at bs ≡ closed c at (take m bs)
closed_cut c at m bs h l =
    rw (ne_eqb (length bs) 13 (omega arith), length-take-le m bs (omega arith), ne_eqb m 13 (omega arith))

-- a run that stands at offset at, where what was read ends, goes on alike on all the bytes and on those up to the cut
cut_run : (k k' : ℕ) (c : Content) (at : ℕ) (bs : List ℕ) → SoFar c → at ≡ length (front c) → length bs < k → 45664 - at < k' → 45664 < at + length bs
    → run k c at bs ≡ run k' c at (take (45664 - at) bs)
unfolding run
cut_run zero k' c at bs s p h h' l = absurd (omega arith)
cut_run (suc k) zero c at bs s p h h' l = absurd (omega arith)
cut_run (suc k) (suc k') c at bs s p h h' l =
    let m = 45664 - at in
    let r = record_of bs in
    let short = front_short c s in
    let same : record_of (take m bs) ≡ r = cut_record m bs (omega arith) (omega arith) in
    let within = whole_size bs in
    let later = cut_run k k' (grow c r) (at + size r) (drop (size r) bs) in
    rw same (by_arms (fits (tally_of c) r) (λ f.
    let u = rule (tally_of c) r f in
    let some = some_size (tally_of c) r u in
    by_arms (is_end r) (λ _. closed_cut (grow c r) at m bs (omega arith) (omega arith))
    (λ i. let e = length_front c r u s i in
    let left = length-drop (size r) bs in
    let z : 45664 - (at + size r) ≡ m - size r = omega arith in
    later (one_more c r u s) (omega arith) (omega arith) (omega arith) (omega arith)
    ∙ ap (λ (l : List ℕ). run k' (grow c r) (at + size r) l) (ap (λ (n : ℕ). take n (drop (size r) bs)) z ∙ sym (drop_take (size r) m bs)))) (λ _. refl))

-- P stands in the first 18 bytes
pub plan_cut : (m : ℕ) (f : List ℕ) → 18 ≤ m → plan_of (take m f) ≡ plan_of f
plan_cut m f h =
    let level = get_or-take m f 1 0 (omega arith) in
    let te : little_endian 8 (drop 2 (take m f)) ≡ little_endian 8 (drop 2 f) = ap (little_endian 8) (drop_take 2 m f) ∙ number_of_front 8 (m - 2) (drop 2 f) (omega arith) in
    let ae : little_endian 8 (drop 10 (take m f)) ≡ little_endian 8 (drop 10 f) = ap (little_endian 8) (drop_take 10 m f) ∙ number_of_front 8 (m - 10) (drop 10 f) (omega arith) in
    λ i. record { level = level i; te = te i; ae = ae i }

longer_decide : (f : List ℕ) → 45664 < length f → decode f ≡ decode (take 45664 f)
unfolding decode
longer_decide f h =
    let long = length-take-le 45664 f (omega arith) in
    let left = length-drop 18 f in
    let runs : run (length f) (start (plan_of f)) 18 (drop 18 f) ≡ run 45664 (start (plan_of f)) 18 (take 45646 (drop 18 f)) =
    cut_run (length f) 45664 (start (plan_of f)) 18 (drop 18 f) (at_first (plan_of f)) refl (omega arith) (omega arith) (omega arith) in
    let again : run 45664 (start (plan_of f)) 18 (take 45646 (drop 18 f)) ≡ run (length (take 45664 f)) (start (plan_of (take 45664 f))) 18 (drop 18 (take 45664 f)) =
    ap (λ (l : List ℕ). run 45664 (start (plan_of f)) 18 l) (sym (drop_take 18 45664 f))
    ∙ ap₂ (λ (n : ℕ) (p : Plan). run n (start p) 18 (drop 18 (take 45664 f))) (sym long) (sym (plan_cut 45664 f (omega arith))) in
    let has : has_plan f ≡ has_plan (take 45664 f) =
    ap₂ (λ (x : ℕ) (t : Bool). eqb x 0x50 && t) (sym (get_or-take 45664 f 0 0 (omega arith)))
    (le-leb 18 (length f) (omega arith) ∙ sym (le-leb 18 (length (take 45664 f)) (omega arith))) in
    ap₂ (λ (t : Bool) (o : Outcome Content). pick t o (refused 17 0)) has (runs ∙ again)

-- whether an input is refused, and where, is decided by its first 45,664 bytes
pub first_decide : (f : List ℕ) → decode f ≡ decode (take 45664 f)
first_decide f = ⊎_elim (λ h. ap decode (sym (take_all 45664 f h))) (longer_decide f) (le_or_lt (length f) 45664)
