-- One file for each content: a file that is accepted is the file of what it reads to, so no second file has its content.
-- Assumes nothing.
use Prim.Native.Nat.{ℕ, zero, suc, ◌+◌, ◌≤◌}
use mathlib.Core.Path.{◌≡◌, refl, ap, ap₂, subst, sym, ◌∙◌}
use mathlib.Core.List.{List, [], ◌∷◌, ◌++◌, append_assoc}
use mathlib.Core.Bool.{Bool, true, false}
use native.Mathlib.Omega.{arith}
use lib.Dec.{T, eqb, leb}
use lib.Seq.{get_or-drop, take-add}
use borrow.Author.Tests.{eqb-true, leb-true}
use lib.ListN.{length, take, drop, get_or, take-append-drop, length-drop, drop_of_length-le}
use Rattle.terms.specs.Outcome.{accepted, refused}
use Rattle.terms.specs.Numbers.{pick}
use Rattle.terms.proofs.Outcomes.{never, Gives}
use Rattle.terms.proofs.Tests.{by_test}
use Rattle.workfile.specs.Numbers.{Bytes, little_endian, bytes}
use Rattle.workfile.specs.Content.{Content, plan_bytes, bytes_of, encode}
pub use Rattle.workfile.specs.Content.{Counts}
use Rattle.workfile.specs.Decode.{size, is_end, record_of, tally_of, fits, grow, run, has_plan, plan_of, start, decode}
use Rattle.workfile.specs.Rules.{Rule}
use Rattle.workfile.specs.declared.FileRecord.{FileRecord}
use Rattle.workfile.specs.declared.FileRecord.TheVariants.{End}
use Rattle.workfile.proofs.Numbers.{bytes_again}
use Rattle.workfile.proofs.Records.{its_bytes}
use Rattle.workfile.proofs.Rules.{rule, both, is_end_lem}
use Rattle.workfile.proofs.Growing.{SoFar, at_first, one_more, front, front_grow, front_end, end_same}

-- what a run that reads d has passed, and what was left
record Reads (c : Content) (bs : List ℕ) (d : Content) : Type 0 where
  spelled : Bytes bs → front c ++ bs ≡ encode d
  counts : Counts d

split : (bs : List ℕ) (r : FileRecord) → Bytes bs → record_of bs ≡ r → bs ≡ bytes_of r ++ drop (size r) bs
split bs r b e =
    let its : bytes_of r ≡ take (size r) bs = rw e at (its_bytes bs b) in
    sym (ap (λ (l : List ℕ). l ++ drop (size r) bs) its ∙ take-append-drop (size r) bs)

-- a record that is not Z
passed : (c : Content) (bs : List ℕ) (d : Content) → Rule (tally_of c) (record_of bs) → SoFar c → is_end (record_of bs) ≡ false
    → Reads (grow c (record_of bs)) (drop (size (record_of bs)) bs) d → Reads c bs d
passed c bs d h s i later =
    let r = record_of bs in
    let rest = drop (size r) bs in
    record {
      spelled = λ b. ap (λ (l : List ℕ). front c ++ l) (split bs r b refl) ∙ sym (append_assoc (front c) (bytes_of r) rest)
          ∙ ap (λ (l : List ℕ). l ++ rest) (sym (front_grow c r h s i)) ∙ later.spelled (λ i. rw get_or-drop (b (size r + i)));
      counts = later.counts;
    }

-- Z, which is last
ended : (c : Content) (bs : List ℕ) (n t : ℕ) → record_of bs ≡ End n t → Rule (tally_of c) (End n t) → SoFar c → length bs ≡ 13 → Reads c bs (grow c (End n t))
unfolding encode grow
ended c bs n t e h s l =
    let last : Bytes bs → bs ≡ bytes_of (End n t) =
    λ b. split bs (End n t) b e ∙ ap (λ (x : List ℕ). bytes_of (End n t) ++ x) (drop_of_length-le bs {i = 13} (omega arith)) in
    let k = one_more c (End n t) h s in
    record {
      spelled = λ b. ap₂ ◌++◌ (sym (front_end c n t)) (last b ∙ ap bytes_of (ap₂ End h.0 h.1));
      counts = record { few_words = k.few_words; few_lines = k.few_lines; total = k.total; same = end_same c n t s h };
    }

ended_run : (c : Content) (at : ℕ) (bs : List ℕ) (d : Content) → is_end (record_of bs) ≡ true → Rule (tally_of c) (record_of bs) → SoFar c → length bs ≡ 13
    → grow c (record_of bs) ≡ d → Reads c bs d
ended_run c at bs d i h s l e =
    let z = is_end_lem (record_of bs) i in
    let same : grow c (End z.0 z.1) ≡ d = ap (grow c) (sym z.2) ∙ e in
    subst (Reads c bs) same (ended c bs z.0 z.1 z.2 (subst (Rule (tally_of c)) z.2 h) s l)

reads : (k : ℕ) (c : Content) (at : ℕ) (bs : List ℕ) (d : Content) → SoFar c → run k c at bs ≡ accepted d → Reads c bs d
unfolding run
reads zero c at bs d s e = never e
reads (suc k) c at bs d s e =
    let r = record_of bs in
    let later = reads k (grow c r) (at + size r) (drop (size r) bs) d in
    by_test (λ o. o ≡ accepted d → Reads c bs d) (fits (tally_of c) r)
    (λ f. let h = rule (tally_of c) r f in
    by_test (λ o. o ≡ accepted d → Reads c bs d) (is_end r)
    (λ i. by_test (λ o. o ≡ accepted d → Reads c bs d) (eqb (length bs) 13) (λ l e. ended_run c at bs d i h s (eqb-true (length bs) 13 l) (cc)) (λ _ e. never e))
    (λ i e. passed c bs d h s i (later (one_more c r h s) e))) (λ _ e. never e) e

plan_bytes_lem : (f : List ℕ) → Bytes f → has_plan f ≡ true → f ≡ plan_bytes (plan_of f) ++ drop 18 f
plan_bytes_lem [] b h = absurd (let z : ◌≡◌ {A = ℕ} 0 1 = cc in omega arith)
plan_bytes_lem (x ∷ []) b h = absurd (let l = both (eqb x 0x50) (leb 18 1) (eqb-true x 0x50) (leb-true 18 1) h in omega arith)
plan_bytes_lem (x ∷ y ∷ g) b h =
    let l : (x ≡ 0x50) × (18 ≤ suc (suc (length g))) = both (eqb x 0x50) (leb 18 (suc (suc (length g)))) (eqb-true x 0x50) (leb-true 18 (suc (suc (length g)))) h in
    let low : bytes 8 (little_endian 8 g) ≡ take 8 g = bytes_again 8 g (λ i. b (suc (suc i))) (omega arith) in
    let high : bytes 8 (little_endian 8 (drop 8 g)) ≡ take 8 (drop 8 g) =
    bytes_again 8 (drop 8 g) (λ i. rw get_or-drop (b (suc (suc (8 + i))))) (rw length-drop (omega arith)) in
    ap₂ (λ (k : ℕ) (t : List ℕ). k ∷ y ∷ t) l.0
    (sym (ap (λ (t : List ℕ). t ++ drop 16 g) (ap₂ ◌++◌ low high ∙ sym (take-add 8 8 g)) ∙ take-append-drop 16 g))

after_plan : (f : List ℕ) (d : Content) → decode f ≡ accepted d → (has_plan f ≡ true) × Reads (start (plan_of f)) (drop 18 f) d
unfolding decode
after_plan f d =
    by_test (λ o. o ≡ accepted d → (has_plan f ≡ true) × Reads (start (plan_of f)) (drop 18 f) d) (has_plan f)
    (λ h e. (h, reads (length f) (start (plan_of f)) 18 (drop 18 f) d (at_first (plan_of f)) e)) (λ _ e. never e)

-- writing what a legal file reads to gives that file
pub one_file : (f : List ℕ) (d : Content) → Bytes f → decode f ≡ accepted d → encode d ≡ f
one_file f d b e =
    let q = after_plan f d e in
    sym (plan_bytes_lem f b q.0 ∙ q.1.spelled (λ i. rw get_or-drop (b (18 + i))))

-- two accepted files with one content are the same bytes
pub no_second_file : (f g : List ℕ) (d : Content) → Bytes f → Bytes g → decode f ≡ accepted d → decode g ≡ accepted d → f ≡ g
no_second_file f g d bf bg ef eg = sym (one_file f d bf ef) ∙ one_file g d bg eg

-- what a legal file reads to has its counts within their limits
pub read_counts : (f : List ℕ) (d : Content) → decode f ≡ accepted d → Counts d
read_counts f d e = (after_plan f d e).1.counts

pub plan_there : (f : List ℕ) (d : Content) → decode f ≡ accepted d → (get_or f 0 0 ≡ 0x50) × (18 ≤ length f)
plan_there f d e = both (eqb (get_or f 0 0) 0x50) (leb 18 (length f)) (eqb-true (get_or f 0 0) 0x50) (leb-true 18 (length f)) (after_plan f d e).0

-- a file is refused by 17 alone
run_gives : (k : ℕ) (c : Content) (at : ℕ) (bs : List ℕ) → Gives (17 ∷ []) (run k c at bs)
unfolding run
run_gives zero c at bs = tt
run_gives (suc k) c at bs =
    let r = record_of bs in
    by_test (Gives (17 ∷ [])) (fits (tally_of c) r)
    (λ _. by_test (Gives (17 ∷ [])) (is_end r) (λ _. by_test (Gives (17 ∷ [])) (eqb (length bs) 13) (λ _. tt) (λ _. tt))
    (λ _. run_gives k (grow c r) (at + size r) (drop (size r) bs))) (λ _. tt)

pub decode_gives : (f : List ℕ) → Gives (17 ∷ []) (decode f)
unfolding decode
decode_gives f = by_test (Gives (17 ∷ [])) (has_plan f) (λ _. run_gives (length f) (start (plan_of f)) 18 (drop 18 f)) (λ _. tt)

pub refused_so : (f : List ℕ) (n at : ℕ) → decode f ≡ refused n at → decode f ≡ refused 17 at
refused_so f n at e = e ∙ ap (λ (m : ℕ). refused m at) (eqb-true n 17 (is (eqb n 17) (subst (Gives (17 ∷ [])) e (decode_gives f))))
  where
    is : (t : Bool) → T (pick t true false) → t ≡ true
    is true g = refl
    is false g = absurd g
