-- Files in a row, one after the other: the first file, what is left of the row, and the entries added so far. Assumes nothing.
use Prim.Native.Nat.{ℕ, zero, suc, ◌+◌, ◌-◌, ◌≤◌, ◌<◌}
use Rattle.std.specs.Prelude.{Result, Ok, Err, Some, None}
use Rattle.std.specs.Result.{result_ok}
use mathlib.Core.Path.{◌≡◌, refl, sym, ap, ◌∙◌}
use mathlib.Core.Bool.{true, false}
use mathlib.Core.List.{List, [], ◌∷◌}
use native.Mathlib.Omega.{arith}
use lib.IntN.{ℤ}
use lib.ListN.{length, take, drop, length-drop}
use lib.Seq.{take_all, drop-drop}
use Rattle.terms.specs.declared.Refusal.{Refusal}
use Rattle.terms.specs.Outcome.{accepted, refused_by, after, left, says}
use Rattle.terms.proofs.Tests.{by_test}
use Rattle.workfile.specs.declared.{Plan.Plan, Contents.Contents}
use Rattle.workfile.specs.Promises.{plan_with, Rooms, ReadPromise}
use Rattle.workfile.proofs.Held.{read_refused, AtRead, decodes}
use Rattle.reader.specs.declared.Stopped.{Stopped}
use Rattle.reader.specs.Steps.{stopped_in}
use Rattle.reader.proofs.Passing.{z_whole}
use Rattle.steps.specs.declared.Answers.{Answers}
use Rattle.steps.specs.Steps.{StepsPromise}
use Rattle.season.specs.declared.{Tally.Tally, HandedBack.HandedBack}
use Rattle.season.specs.Tally.{Entry, no_tally}
use Rattle.season.specs.Add.{add_of, AddPromise}
use Rattle.filing.specs.declared.First.{First}
use Rattle.filing.specs.Filing.{entry_by, content_entry, read_entry, file_entry, first_of, entries_in, entries_of, add_all, files_of}

-- what the steps answered of a content, as it is added
pub content_judged : (plan : Plan) (words ledger : List ℕ) (errors : List ℤ) (r : Result Answers Refusal) (a : Answers) → StepsPromise plan words ledger errors r → result_ok r ≡ Some a →
    Some (record { level = a.planned.level; book = a.planned.total; limit = a.judgement.upper_limit; verdict = a.judgement.verdict }) ≡ content_entry plan words ledger errors
unfolding content_entry
content_judged plan words ledger errors (Ok b) a p is = let same : b ≡ a = cc in sym (ap entry_by (sym p.answer) ∙ ap (λ (x : Answers). entry_by (accepted x)) same)
content_judged plan words ledger errors (Err why) a p is = let z : ◌≡◌ {A = ℕ} 0 1 = cc in absurd (omega arith)

-- what was read of a file
pub file_refused : {file w v w' v' : List ℕ} {e e' : List ℤ} {r : Result Contents Refusal} → Rooms w v e → ReadPromise file w v e r w' v' e' → (why : Refusal) → r ≡ Err why → None ≡ file_entry file
unfolding file_entry
file_refused rooms p why is = sym (ap read_entry (read_refused rooms p why is))

pub at_read : {file w₀ v₀ w v : List ℕ} {e₀ e : List ℤ} {r : Result Contents Refusal} {k : Contents} → Rooms w₀ v₀ e₀ → ReadPromise file w₀ v₀ e₀ r w v e → r ≡ Ok k → AtRead file k w v e
at_read rooms p is = record { words = _; values = _; errors = _; answer = _; rooms = rooms; promise = p; told = is }

pub file_read : {file : List ℕ} {k : Contents} {w v : List ℕ} {e : List ℤ} {r : Entry} → AtRead file k w v e →
    r ≡ content_entry (plan_with k.level k.te k.ae) (take k.words w) (take k.lines v) (take k.lines e) → r ≡ file_entry file
unfolding file_entry
file_read at f = f ∙ sym (ap read_entry (decodes at))

-- the first file of a row, by where the first pass stopped
module _ (row : List ℕ) {s : Stopped} (is : s ≡ stopped_in row) where
  pub ends_with_z : {r : Entry} {next : ℕ} → s.ends ≡ true → r ≡ file_entry (take next row) → next ≡ s.at + 13 → record { entry = r; next = next } ≡ first_of row
  unfolding first_of
  ends_with_z e f z = (λ i. record { entry = (f ∙ ap (λ (n : ℕ). file_entry (take n row)) z) i; next = z i }) ∙ by_stop s is e
    where
      by_stop : (s : Stopped) → s ≡ stopped_in row → s.ends ≡ true → record { entry = file_entry (take (s.at + 13) row); next = s.at + 13 } ≡ first_of row
      by_stop s is e = simp (sym is, e)

  pub breaks_off : {next : ℕ} → s.ends ≡ false → next ≡ length row → record { entry = None; next = next } ≡ first_of row
  unfolding first_of
  breaks_off e to = (λ i. record { entry = None; next = to i }) ∙ simp (sym is, e)

-- it has a byte at least, and stands within the row
pub next_within : (row : List ℕ) → 0 < length row → (0 < (first_of row).next) × ((first_of row).next ≤ length row)
unfolding first_of
next_within row some =
    by_test (λ (x : First). (0 < x.next) × (x.next ≤ length row)) (stopped_in row).ends (λ e. (omega arith, z_whole row (stopped_in row) refl e)) (λ e. (some, omega arith))

-- a bound that is enough is as good as any other
shorter : (row : List ℕ) (k : ℕ) → 0 < length row → length row ≤ suc k → length (drop (first_of row).next row) ≤ k
shorter row k some h = omega (arith, length-drop (first_of row).next row, (next_within row some).0)

enough : (k j : ℕ) (row : List ℕ) → length row ≤ k → length row ≤ j → entries_in k row ≡ entries_in j row
unfolding entries_in
enough zero zero row h g = refl
enough zero (suc j) [] h g = refl
enough zero (suc j) (b ∷ row) h g = absurd (omega arith)
enough (suc k) zero [] h g = refl
enough (suc k) zero (b ∷ row) h g = absurd (omega arith)
enough (suc k) (suc j) [] h g = refl
enough (suc k) (suc j) (b ∷ row) h g =
    ap (λ (es : List Entry). (first_of (b ∷ row)).entry ∷ es)
    (enough k j (drop (first_of (b ∷ row)).next (b ∷ row)) (shorter (b ∷ row) k (omega arith) h) (shorter (b ∷ row) j (omega arith) g))

-- the first file of a row, and the rest
pub entries_on : (most : ℕ) (row : List ℕ) → 0 < length row → length row ≤ most → entries_in most row ≡ (first_of row).entry ∷ entries_in most (drop (first_of row).next row)
unfolding entries_in
entries_on zero row some h = absurd (omega arith)
entries_on (suc k) [] some h = absurd (omega arith)
entries_on (suc k) (b ∷ row) some h =
    let rest : List ℕ = drop (first_of (b ∷ row)).next (b ∷ row) in
    let few : length rest ≤ k = shorter (b ∷ row) k some h in
    ap (λ (es : List Entry). (first_of (b ∷ row)).entry ∷ es) (enough k (suc k) rest few (omega arith))

none_left : (most : ℕ) (row : List ℕ) → length row ≡ 0 → entries_in most row ≡ []
unfolding entries_in
none_left zero row e = refl
none_left (suc k) [] e = refl
none_left (suc k) (b ∷ row) e = absurd (omega arith)

-- as the loop stands at a place of the row: the tally of the files before it, and what is still to be added
pub record Going (files : List ℕ) (at : ℕ) (t : Tally) : Type 0 where
  pub within : at ≤ length files
  pub same : add_all t (entries_in (length files) (drop at files)) ≡ files_of files

pub begins : (files : List ℕ) {t : Tally} → t ≡ no_tally → Going files 0 t
unfolding files_of entries_of
begins files e = record { within = omega arith; same = ap (λ (u : Tally). add_all u (entries_in (length files) files)) e }

module _ {files : List ℕ} {at : ℕ} {t : Tally} (g : Going files at t) where
  pub ended : length files ≤ at → AddPromise no_tally (files_of files) (record { answer = Ok tt; tally = t })
  unfolding add_all
  ended h =
      let all : accepted t ≡ files_of files = sym (ap (add_all t) (none_left (length files) (drop at files) (omega (arith, length-drop at files)))) ∙ g.same in
      record { answer = all; tally_left = ap (left (λ u. u) no_tally) all }

  module _ (h : at < length files) {first : First} (found : first ≡ first_of (take (length files - at) (drop at files))) where
    some : 0 < length (drop at files)
    some = omega (arith, length-drop at files)

    -- what is left is all that stands from the place on
    is : first ≡ first_of (drop at files)
    is = found ∙ ap first_of (take_all (length files - at) (drop at files) (omega (arith, length-drop at files)))

    pub next_fits : at + first.next ≤ length files
    next_fits = omega (arith, ap (λ (x : First). x.next) is, (next_within (drop at files) some).1, length-drop at files)

    pub next_later : length files - (at + first.next) < length files - at
    next_later = omega (arith, ap (λ (x : First). x.next) is, (next_within (drop at files) some).0, next_fits)

    -- the row as its first file and the rest
    row_is : entries_in (length files) (drop at files) ≡ first.entry ∷ entries_in (length files) (drop (at + first.next) files)
    row_is =
        entries_on (length files) (drop at files) some (omega (arith, length-drop at files)) ∙
        ap (λ (x : First). x.entry ∷ entries_in (length files) (drop x.next (drop at files))) (sym is) ∙
        ap (λ (row : List ℕ). first.entry ∷ entries_in (length files) row) (drop-drop first.next at files)

    module _ {r : HandedBack} (p : AddPromise t (add_of t first.entry) r) where
      told : {a : Result Unit Refusal} → r.answer ≡ a → add_of t first.entry ≡ after (λ done. accepted r.tally) (says a)
      told is = sym p.answer ∙ ap (λ (a : Result Unit Refusal). after (λ done. accepted r.tally) (says a)) is

      abbrev rest : List Entry
      rest = entries_in (length files) (drop (at + first.next) files)

      on : after (λ u. add_all u rest) (add_of t first.entry) ≡ files_of files
      unfolding add_all
      on = sym (ap (add_all t) row_is) ∙ g.same

      pub goes_on_lem : {done : Unit} → r.answer ≡ Ok done → Going files (at + first.next) r.tally
      goes_on_lem is = record { within = next_fits; same = sym (ap (after (λ u. add_all u rest)) (told is)) ∙ on }

      pub stops : {why : Refusal} {u : Tally} → r.answer ≡ Err why → u ≡ no_tally → AddPromise no_tally (files_of files) (record { answer = Err why; tally = u })
      stops {why} is empty =
          let all : refused_by why ≡ files_of files = ap (after (λ u. add_all u rest)) (sym (told is)) ∙ on in
          record { answer = all; tally_left = empty ∙ ap (left (λ v. v) no_tally) all }
