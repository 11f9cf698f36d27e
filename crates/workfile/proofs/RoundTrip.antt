-- The file of a content reads back to that content. Assumes nothing.
use Prim.Native.Nat.{ℕ, zero, suc, ◌+◌, ◌^◌, ◌<◌, ◌≤◌}
use mathlib.Core.Path.{◌≡◌, refl, ap, subst, sym, ◌∙◌}
use mathlib.Core.List.{List, [], ◌∷◌, ◌++◌, map, append-nil, append_assoc}
use mathlib.Core.Bool.{Bool, true, false}
use mathlib.Core.Logic.{⊎_elim}
use native.Mathlib.Omega.{arith}
use borrow.Author.Tests.{le-leb}
use lib.ListN.{length, get_or, length-append, length-replicate}
use lib.IntN.{ℤ}
use Rattle.terms.specs.Outcome.{accepted, refused}
use Rattle.terms.specs.Numbers.{pick, sum}
use Rattle.terms.proofs.Sums.{sum_append}
use Rattle.terms.proofs.Tests.{le_or_lt}
use Rattle.signed.specs.Errors.{size_of, is_under, signed_of, Holdable, AllHeld}
use Rattle.signed.proofs.Laws.{same_error, no_error, most_size_lem}
use Rattle.workfile.specs.Numbers.{bytes}
use Rattle.workfile.specs.Content.{Content, most_words, most_file_lines, sum_bound, plan_bytes, bytes_of, bytes_of_all, error_record, error_records, between, closing, encode, Counts}
use Rattle.workfile.specs.Decode.{size, is_end, tally_of, grow, pad_to, with_errors, run, has_plan, plan_of, start, decode}
use Rattle.workfile.specs.Rules.{Rule}
use Rattle.workfile.specs.declared.Plan.{Plan}
use Rattle.workfile.specs.declared.FileRecord.{FileRecord}
use Rattle.workfile.specs.declared.FileRecord.TheVariants.{Word, Value, ErrorOf}
use Rattle.workfile.proofs.Numbers.{number_again}
use Rattle.workfile.proofs.Records.{Good, record_again, skip, length_record}
use Rattle.workfile.proofs.Rules.{fitted, some_size}
use Rattle.workfile.proofs.Lists.{some_record, pad_skip, pad_take}

-- the numbers of a content fit their bytes, as those of lent slices do
abbrev pub Below : List ℕ → Type 0
Below l = (i : ℕ) → get_or l i 0 < 2 ^ 64

pub record Fit (c : Content) : Type 0 where
  pub te : c.plan.te < 2 ^ 64
  pub ae : c.plan.ae < 2 ^ 64
  pub words : Below c.words
  pub values : Below c.values
  pub errors : AllHeld c.errors

-- the records rs, none of them Z, lead from one content to another
data Reach : Content → List FileRecord → Content → Type 0 where
  here : {c : Content} → Reach c [] c
  more : {c d : Content} {r : FileRecord} {rs : List FileRecord} → Good r → Rule (tally_of c) r → is_end r ≡ false → Reach (grow c r) rs d → Reach c (r ∷ rs) d

then : {c d e : Content} {rs qs : List FileRecord} → Reach c rs d → Reach d qs e → Reach c (rs ++ qs) e
then here q = q
then (more g u t p) q = more g u t (then p q)

run_one : (k : ℕ) (c : Content) (at : ℕ) (r : FileRecord) (rest : List ℕ) → Good r → Rule (tally_of c) r → is_end r ≡ false
    → run (suc k) c at (bytes_of r ++ rest) ≡ run k (grow c r) (at + size r) rest
unfolding run
run_one k c at r rest g u t = rw (record_again r rest g, fitted (tally_of c) r u, t, skip r rest)

reach_run : {c d : Content} {rs : List FileRecord} → Reach c rs d → (k at : ℕ) (rest : List ℕ) → length (bytes_of_all rs ++ rest) < k
    → (k' : ℕ) × (at' : ℕ) × (length rest < k') × (run k c at (bytes_of_all rs ++ rest) ≡ run k' d at' rest)
reach_run here k at rest h = (k, at, h, refl)
reach_run (more {c} {d} {r} {rs} g u t p) zero at rest h = absurd (omega arith)
reach_run (more {c} {d} {r} {rs} g u t p) (suc k) at rest h =
    let joined = append_assoc (bytes_of r) (bytes_of_all rs) rest in
    let l : length (bytes_of r) + length (bytes_of_all rs ++ rest) < suc k = rw (joined, length-append (bytes_of r) (bytes_of_all rs ++ rest)) at h in
    let q = reach_run p k (at + size r) rest (omega (arith, length_record r, some_size (tally_of c) r u)) in
    (q.0, q.1, q.2, ap (λ (l : List ℕ). run (suc k) c at l) joined ∙ run_one k c at r (bytes_of_all rs ++ rest) g u t ∙ q.3)

all_words : (c : Content) (ws : List ℕ) → Below ws → c.values ≡ [] → length c.words + length ws ≤ most_words
    → Reach c (map Word ws) (record { plan = c.plan; words = c.words ++ ws; values = c.values; errors = c.errors })
unfolding grow
all_words c [] b v h = rw append-nil here
all_words c (w ∷ ws) b v h =
    more {c = c} {r = Word w} (b 0) (ap length v, omega arith) refl
    (rw append_assoc at (all_words (grow c (Word w)) ws (λ i. b (suc i)) v (simp length-append (omega arith))))

all_values : (c : Content) (vs : List ℕ) → Below vs → c.errors ≡ [] → length c.values + length vs ≤ most_file_lines → sum c.values + sum vs < sum_bound
    → Reach c (map Value vs) (record { plan = c.plan; words = c.words; values = c.values ++ vs; errors = c.errors })
unfolding grow
all_values c [] b e h s = rw append-nil here
all_values c (v ∷ vs) b e h s =
    more {c = c} {r = Value v} (b 0) (ap length e, (omega arith, omega arith)) refl
    (rw append_assoc at (all_values (grow c (Value v)) vs (λ i. b (suc i)) e (simp length-append (omega arith)) (simp sum_append (omega arith))))

-- what the records of the errors es, of the lines from i on, lead to: the errors fs, which are those before and es
abbrev Entered : Content → ℕ → List ℤ → Type 0
Entered c i es =
    (fs : List ℤ) × (length fs ≤ i + length es) × (pad_to (i + length es) fs ≡ pad_to i c.errors ++ es) × Reach c (error_records i es) (with_errors c fs)

-- an error of 0 has no record
passed_over : (c : Content) (i : ℕ) (e : ℤ) (es : List ℤ) → size_of e ≡ 0 → length c.errors ≤ i → Entered c (suc i) es → Entered c i (e ∷ es)
passed_over c i e es none l q =
    let z : i + suc (length es) ≡ suc i + length es = omega arith in (
      q.0,
      omega (arith, q.1),
      ap (λ (n : ℕ). pad_to n q.0) z ∙ q.2 ∙ pad_skip i c.errors es l ∙ ap (λ (x : ℤ). pad_to i c.errors ++ (x ∷ es)) (sym (no_error e none)),
      subst (λ (rs : List FileRecord). Reach c rs (with_errors c q.0)) (ap (λ (n : ℕ). error_record i (is_under e) n ++ error_records (suc i) es) (sym none)) q.3,
    )

-- any other has one, of its kind
entered : (c : Content) (i : ℕ) (e : ℤ) (es : List ℤ) → 0 < size_of e → Holdable e → length c.errors ≤ i → i < length c.values → length c.values ≤ most_file_lines
    → Entered (grow c (ErrorOf (is_under e) i (size_of e))) (suc i) es → Entered c i (e ∷ es)
unfolding grow
entered c i e es some held l h m q =
    let z : i + suc (length es) ≡ suc i + length es = omega arith in
    let fits : size_of e < 256 ^ 8 = omega (arith, most_size_lem (is_under e)) in (
      q.0,
      omega (arith, q.1),
      ap (λ (n : ℕ). pad_to n q.0) z ∙ q.2 ∙ pad_take i (signed_of (size_of e) (is_under e)) c.errors es l
          ∙ ap (λ (x : ℤ). pad_to i c.errors ++ (x ∷ es)) (same_error e),
      subst (λ (rs : List FileRecord). Reach c (rs ++ error_records (suc i) es) (with_errors c q.0)) (sym (some_record i (is_under e) (size_of e) some))
          (more {c = c} {r = ErrorOf (is_under e) i (size_of e)} (omega arith, fits) (l, (h, (some, held))) refl q.3),
    )

-- the errors es of the lines from i on, where c's are those before
all_errors : (c : Content) (i : ℕ) (es : List ℤ) → AllHeld es → length c.errors ≤ i → i + length es ≤ length c.values → length c.values ≤ most_file_lines → Entered c i es
unfolding grow
all_errors c i [] b l h m =
    let z : i + 0 ≡ i = omega arith in
    (c.errors, omega arith, ap (λ (n : ℕ). pad_to n c.errors) z ∙ sym (append-nil (pad_to i c.errors)), here)
all_errors c i (e ∷ es) b l h m =
    ⊎_elim
    (λ none. passed_over c i e es (omega arith) l (all_errors c (suc i) es (λ j. b (suc j)) (omega arith) (omega arith) m))
    (λ some. entered c i e es some (b 0) l (omega arith) m
    (all_errors (grow c (ErrorOf (is_under e) i (size_of e))) (suc i) es (λ j. b (suc j)) (simp (length-append, length-replicate) (omega arith)) (omega arith) m))
    (le_or_lt (size_of e) 0)

-- P, as it is read
plan_again : (p : Plan) (rest : List ℕ) → p.te < 2 ^ 64 → p.ae < 2 ^ 64 → plan_of (plan_bytes p ++ rest) ≡ p
plan_again p rest t a =
    let te = number_again 8 p.te (bytes 8 p.ae ++ rest) t in
    let ae = number_again 8 p.ae rest a in
    λ i. record { level = p.level; te = te i; ae = ae i }

closes : (d : Content) (k at : ℕ) → Good (closing d) → length (bytes_of (closing d)) < k
    → run k d at (bytes_of (closing d)) ≡ accepted (with_errors d (pad_to (length d.values) d.errors))
unfolding run grow
closes d zero at g h = absurd (omega arith)
closes d (suc k) at g h = rw (record_again (closing d) [] g, fitted (tally_of d) (closing d) (refl, refl))

through : (c : Content) → Fit c → Counts c → (k at : ℕ) → length (bytes_of_all (between c) ++ bytes_of (closing c)) < k
    → run k (start c.plan) at (bytes_of_all (between c) ++ bytes_of (closing c)) ≡ accepted c
through c f l k at h =
    let w = all_words (start c.plan) c.words f.words refl (omega (arith, l.few_words)) in
    let c₁ : Content = record { plan = c.plan; words = c.words; values = []; errors = [] } in
    let v = all_values c₁ c.values f.values refl (omega (arith, l.few_lines)) (omega (arith, l.total)) in
    let c₂ : Content = record { plan = c.plan; words = c.words; values = c.values; errors = [] } in
    let q = all_errors c₂ 0 c.errors f.errors (omega arith) (omega (arith, l.same)) l.few_lines in
    let r = reach_run (then (then w v) q.3) k at (bytes_of (closing c)) h in
    let z : length c.values ≡ 0 + length c.errors = omega (arith, l.same) in
    r.3 ∙ closes (with_errors c₂ q.0) r.0 r.1 (omega (arith, l.few_lines), l.total) r.2
    ∙ ap (λ (es : List ℤ). accepted (with_errors c₂ es)) (ap (λ (n : ℕ). pad_to n q.0) z ∙ q.2)

-- what is written reads back to the same content
pub round_trip : (c : Content) → Fit c → Counts c → decode (encode c) ≡ accepted c
unfolding decode encode
round_trip c n l =
    let rest = bytes_of_all (between c) ++ bytes_of (closing c) in
    let f = plan_bytes c.plan ++ rest in
    let whole : has_plan f ≡ true = le-leb 18 (length f) (omega arith) in
    ap (λ (b : Bool). pick b (run (length f) (start (plan_of f)) 18 rest) (refused 17 0)) whole
    ∙ ap (λ (p : Plan). run (length f) (start p) 18 rest) (plan_again c.plan rest n.te n.ae)
    ∙ through c n l (length f) 18 (omega arith)
