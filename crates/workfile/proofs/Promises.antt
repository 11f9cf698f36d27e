-- What follows from the promises: they leave no freedom, and the theorems of the file hold of the reader's and the writer's results.
-- Assumes nothing.
use Prim.Native.Nat.{ℕ, ◌<◌, ◌≤◌}
use Rattle.terms.specs.declared.Refusal.{Refusal}
use Rattle.std.specs.Prelude.{Result}
use mathlib.Core.Path.{◌≡◌, refl, ap, sym, ◌∙◌}
use mathlib.Core.List.{List}
use lib.Dec.{eqb, ltb}
use lib.IntN.{ℤ}
use borrow.Author.Tests.{eqb-true, ltb-true, leb-true, lt-ltb, le-ltb, le-leb, lt-leb, eq-eqb, ne_eqb}
use lib.ListN.{length, take, drop}
use lib.Seq.{take_at}
use Rattle.terms.specs.Outcome.{Outcome, accepted, refused, after, left, says}
use Rattle.terms.specs.Numbers.{pick, sum}
use Rattle.terms.proofs.Answers.{says_once}
use Rattle.terms.proofs.Outcomes.{never, after_accepted}
use Rattle.terms.proofs.Tests.{by_test}
use Rattle.workfile.specs.Numbers.{Bytes}
use Rattle.workfile.specs.Content.{Content, most_words, most_file_lines, sum_bound, encode, Counts}
use Rattle.workfile.specs.Decode.{decode}
use Rattle.workfile.specs.Promises.{over, counted, counts_of, with_room, read_of, Rooms, ReadPromise, has_file, write_of, plan_with, content_with, WritePromise}
use Rattle.workfile.specs.declared.Plan.{Plan}
use Rattle.workfile.specs.declared.Contents.{Contents}
use Rattle.workfile.proofs.Rules.{both}
use Rattle.workfile.proofs.OneFile.{one_file, no_second_file, read_counts}
use Rattle.workfile.proofs.RoundTrip.{Fit, round_trip}
use Rattle.workfile.proofs.Longest.{first_decide}

-- any two results that meet a promise agree
pub read_once : {f w v w₁ v₁ w₂ v₂ : List ℕ} {e e₁ e₂ : List ℤ} {r₁ r₂ : Result Contents Refusal} → ReadPromise f w v e r₁ w₁ v₁ e₁ → ReadPromise f w v e r₂ w₂ v₂ e₂
    → (r₁ ≡ r₂) × (w₁ ≡ w₂) × (v₁ ≡ v₂) × (e₁ ≡ e₂)
read_once {r₁} {r₂} p q =
    (says_once r₁ r₂ p.answer q.answer, p.words_left ∙ sym q.words_left, p.values_left ∙ sym q.values_left, p.errors_left ∙ sym q.errors_left)

pub write_once : {plan : Plan} {w v f f₁ f₂ : List ℕ} {e : List ℤ} {r₁ r₂ : Result ℕ Refusal} → WritePromise plan w v e f r₁ f₁ → WritePromise plan w v e f r₂ f₂ → (r₁ ≡ r₂) × (f₁ ≡ f₂)
write_once {r₁} {r₂} p q = (says_once r₁ r₂ p.answer q.answer, p.file_left ∙ sym q.file_left)

-- the room comes first
pub short_words : (f : List ℕ) (w v e : ℕ) → w < most_words → read_of f w v e ≡ refused 18 most_words
unfolding read_of
short_words f w v e h = rw (lt-ltb w most_words h) refl

pub short_values : (f : List ℕ) (w v e : ℕ) → most_words ≤ w → v < most_file_lines → read_of f w v e ≡ refused 18 most_file_lines
unfolding read_of
short_values f w v e a h = rw (le-ltb w most_words a, lt-ltb v most_file_lines h) refl

pub short_errors : (f : List ℕ) (w v e : ℕ) → most_words ≤ w → most_file_lines ≤ v → e < most_file_lines → read_of f w v e ≡ refused 18 most_file_lines
unfolding read_of
short_errors f w v e a b h = rw (le-ltb w most_words a, le-ltb v most_file_lines b, lt-ltb e most_file_lines h) refl

-- with room enough the file decides
pub roomy : (f w v : List ℕ) (e : List ℤ) → Rooms w v e → read_of f (length w) (length v) (length e) ≡ decode f
unfolding read_of
roomy f w v e m =
    rw (le-ltb (length w) most_words m.words, le-ltb (length v) most_file_lines m.values, le-ltb (length e) most_file_lines m.errors)

read_decodes : (f : List ℕ) (w v e : ℕ) (d : Content) → read_of f w v e ≡ accepted d → decode f ≡ accepted d
unfolding read_of
read_decodes f w v e d =
    by_test P (ltb w most_words) (λ _ q. never q)
    (λ _. by_test P (ltb v most_file_lines) (λ _ q. never q) (λ _. by_test P (ltb e most_file_lines) (λ _ q. never q) (λ _ q. q)))
  where
    P : Outcome Content → Type 0
    P o = o ≡ accepted d → decode f ≡ accepted d

-- what is written is the file of a content within its limits
wrote : (c : Content) (room : ℕ) (bs : List ℕ) → write_of c room ≡ accepted bs → Counts c × (encode c ≡ bs)
unfolding write_of
wrote c room bs =
    by_test P (eqb (length c.errors) (length c.values))
    (λ s. by_test P (has_file c)
    (λ h. let k = both _ _ (leb-true _ _) (both _ _ (leb-true _ _) (ltb-true _ _)) h in
    by_test P (ltb room (length (encode c))) (λ _ e. never e)
    (λ _ e. (record { few_words = k.0; few_lines = k.1.0; total = k.1.1; same = eqb-true _ _ s }, cc)))
    (λ _ e. never e)) (λ _ e. never e)
  where
    P : Outcome (List ℕ) → Type 0
    P o = o ≡ accepted bs → Counts c × (encode c ≡ bs)

-- a written file is accepted, and reads back to the same content
pub written_reads : (c : Content) (room : ℕ) (bs : List ℕ) → Fit c → write_of c room ≡ accepted bs → decode bs ≡ accepted c
written_reads c room bs f e = let q = wrote c room bs e in ap decode (sym q.1) ∙ round_trip c f q.0

-- the room decides where a content is within its limits
counts_decide : (c : Content) (room : ℕ) → Counts c → write_of c room ≡ pick (ltb room (length (encode c))) (refused 18 (length (encode c))) (accepted (encode c))
unfolding write_of
counts_decide c room k =
    rw (
      eq-eqb (length c.errors) (length c.values) k.same,
      le-leb (length c.words) most_words k.few_words,
      le-leb (length c.values) most_file_lines k.few_lines,
      lt-ltb (sum c.values) sum_bound k.total,
    )

pub counts_write : (c : Content) (room : ℕ) → Counts c → length (encode c) ≤ room → write_of c room ≡ accepted (encode c)
counts_write c room k h = counts_decide c room k ∙ rw (le-ltb room (length (encode c)) h)

pub counts_short : (c : Content) (room : ℕ) → Counts c → room < length (encode c) → write_of c room ≡ refused 18 (length (encode c))
counts_short c room k h = counts_decide c room k ∙ rw (lt-ltb room (length (encode c)) h)

-- 13 and 19 come first
module _ (c : Content) (room : ℕ) where
  pub lengths_differ : (length c.errors ≡ length c.values → ⊥) → write_of c room ≡ refused 13 0
  unfolding write_of
  lengths_differ h = rw (ne_eqb (length c.errors) (length c.values) h)

  module _ (same : length c.errors ≡ length c.values) where
    pub many_words : most_words < length c.words → write_of c room ≡ refused 19 0
    unfolding write_of
    many_words h = rw (eq-eqb (length c.errors) (length c.values) same, lt-leb (length c.words) most_words h)

    pub many_lines : length c.words ≤ most_words → most_file_lines < length c.values → write_of c room ≡ refused 19 0
    unfolding write_of
    many_lines w h = rw (eq-eqb (length c.errors) (length c.values) same, le-leb (length c.words) most_words w, lt-leb (length c.values) most_file_lines h)

    pub sum_past : length c.words ≤ most_words → length c.values ≤ most_file_lines → sum_bound ≤ sum c.values → write_of c room ≡ refused 19 0
    unfolding write_of
    sum_past w v h =
        rw (
          eq-eqb (length c.errors) (length c.values) same,
          le-leb (length c.words) most_words w,
          le-leb (length c.values) most_file_lines v,
          le-ltb (sum c.values) sum_bound h,
        )

-- writing what a legal file reads to gives that file
pub read_writes : (f : List ℕ) (d : Content) (room : ℕ) → Bytes f → decode f ≡ accepted d → length f ≤ room → write_of d room ≡ accepted f
read_writes f d room b e h =
    let o = one_file f d b e in
    let l : length (encode d) ≤ room = rw o h in
    counts_write d room (read_counts f d e) l ∙ ap accepted o

-- what the buffers hold after an answer with these counts
abbrev pub held_by : Contents → List ℕ → List ℕ → List ℤ → Content
held_by k w v e = content_with (plan_with k.level k.te k.ae) (take k.words w) (take k.lines v) (take k.lines e)

front_of : {A : Type 0} (new old : List A) (n : ℕ) → length new ≡ n → take n (over new old) ≡ new
front_of new old n e = take_at new (drop (length new) old) n e

-- an accepted read leaves the file's content in the buffers
pub held : {f w v w' v' : List ℕ} {e e' : List ℤ} {r : Result Contents Refusal} (k : Contents) → ReadPromise f w v e r w' v' e' → says r ≡ accepted k → decode f ≡ accepted (held_by k w' v' e')
held {f} {w} {v} {w'} {v'} {e} {e'} k p a =
    let o = read_of f (length w) (length v) (length e) in
    let q = after_accepted (λ c. accepted (counted c)) o k (sym p.answer ∙ a) in
    let d = q.0 in
    let n : counted d ≡ k = let z = q.2 in cc in
    let ws : take k.words w' ≡ d.words =
    ap (take k.words) (p.words_left ∙ ap (left (λ c. over c.words w) w) q.1) ∙ front_of d.words w k.words (ap (λ (x : Contents). x.words) n) in
    let vs : take k.lines v' ≡ d.values =
    ap (take k.lines) (p.values_left ∙ ap (left (λ c. over c.values v) v) q.1) ∙ front_of d.values v k.lines (ap (λ (x : Contents). x.lines) n) in
    let decoded = read_decodes f (length w) (length v) (length e) d q.1 in
    let es : take k.lines e' ≡ d.errors =
    ap (take k.lines) (p.errors_left ∙ ap (left (λ c. over c.errors e) e) q.1)
    ∙ front_of d.errors e k.lines ((read_counts f d decoded).same ∙ ap (λ (x : Contents). x.lines) n) in
    let same : d ≡ held_by k w' v' e' =
    λ i. record { plan = record { level = (n i).level; te = (n i).te; ae = (n i).ae }; words = sym ws i; values = sym vs i; errors = sym es i } in
    decoded ∙ ap accepted same

-- a file that the writer wrote, read with room enough, gives the answer and the buffers of what was handed to the writer
pub written_is_read : {plan : Plan} {ws vs file file' w v w' v' : List ℕ} {es e e' : List ℤ} {r : Result ℕ Refusal} {q : Result Contents Refusal} (n : ℕ)
    → Fit (content_with plan ws vs es) → WritePromise plan ws vs es file r file' → says r ≡ accepted n
    → Rooms w v e → ReadPromise (take n file') w v e q w' v' e'
    → (says q ≡ accepted (counted (content_with plan ws vs es))) × (w' ≡ over ws w) × (v' ≡ over vs v) × (e' ≡ over es e)
written_is_read {plan} {ws} {vs} {file} {file'} {w} {v} {es} {e} n f p a m q =
    let c = content_with plan ws vs es in
    let x = after_accepted (λ bs. accepted (length bs)) (write_of c (length file)) n (sym p.answer ∙ a) in
    let bs = x.0 in
    let long : length bs ≡ n = let z = x.2 in cc in
    let whole : take n file' ≡ bs = ap (take n) (p.file_left ∙ ap (left (λ b. over b file) file) x.1) ∙ front_of bs file n long in
    let o : read_of (take n file') (length w) (length v) (length e) ≡ accepted c =
    roomy (take n file') w v e m ∙ ap decode whole ∙ written_reads c (length file) bs f x.1 in (
      q.answer ∙ ap counts_of o,
      q.words_left ∙ ap (left (λ c. over c.words w) w) o,
      q.values_left ∙ ap (left (λ c. over c.values v) v) o,
      q.errors_left ∙ ap (left (λ c. over c.errors e) e) o,
    )

-- what was read of a legal file, handed to the writer with room enough, is written as that file
pub read_is_written : {f w v w' v' file file' : List ℕ} {e e' : List ℤ} {r : Result Contents Refusal} {q : Result ℕ Refusal} (k : Contents)
    → Bytes f → ReadPromise f w v e r w' v' e' → says r ≡ accepted k → length f ≤ length file
    → WritePromise (plan_with k.level k.te k.ae) (take k.words w') (take k.lines v') (take k.lines e') file q file'
    → (says q ≡ accepted (length f)) × (file' ≡ over f file)
read_is_written {f} {w'} {v'} {file} {e'} k b p a room q =
    let o = read_writes f (held_by k w' v' e') (length file) b (held k p a) room in
    (q.answer ∙ ap (after (λ bs. accepted (length bs))) o, q.file_left ∙ ap (left (λ bs. over bs file) file) o)

-- two files that read to the same answer and the same entries are the same bytes
pub read_of_one_file : {f g w v w₁ v₁ w₂ v₂ : List ℕ} {e e₁ e₂ : List ℤ} {r q : Result Contents Refusal} (k : Contents) → Bytes f → Bytes g
    → ReadPromise f w v e r w₁ v₁ e₁ → ReadPromise g w v e q w₂ v₂ e₂ → says r ≡ accepted k → says q ≡ accepted k
    → held_by k w₁ v₁ e₁ ≡ held_by k w₂ v₂ e₂ → f ≡ g
read_of_one_file {f} {g} {w₁} {v₁} {e₁} k bf bg p q a c same =
    no_second_file f g (held_by k w₁ v₁ e₁) bf bg (held k p a) (held k q c ∙ ap accepted (sym same))

-- an input is read as its first 45,664 bytes are
first_read : (f : List ℕ) (w v e : ℕ) → read_of f w v e ≡ read_of (take 45664 f) w v e
unfolding read_of
first_read f w v e = ap (with_room w v e) (first_decide f)

pub first_bytes : {f w v w' v' : List ℕ} {e e' : List ℤ} {r : Result Contents Refusal} → ReadPromise f w v e r w' v' e' → ReadPromise (take 45664 f) w v e r w' v' e'
first_bytes {f} {w} {v} {e} p =
    let o = first_read f (length w) (length v) (length e) in
    record {
      answer = p.answer ∙ ap counts_of o;
      words_left = p.words_left ∙ ap (left (λ c. over c.words w) w) o;
      values_left = p.values_left ∙ ap (left (λ c. over c.values v) v) o;
      errors_left = p.errors_left ∙ ap (left (λ c. over c.errors e) e) o;
    }
