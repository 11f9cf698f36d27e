-- What is known of every text that is not faulty, and that the promise of `parse` leaves no freedom. Assumes nothing.
use mathlib.Core.Path.{◌≡◌, refl, sym, ap, subst, ◌∙◌}
use mathlib.Core.Bool.{Bool, false}
use mathlib.Core.List.{List, [], ◌∷◌}
use lib.IntN.{ℤ}
use Prim.Native.Nat.{ℕ, suc, ◌+◌, ◌≤◌}
use native.Mathlib.Omega.{arith}
use lib.ListN.{length, length-append}
use Rattle.std.specs.Prelude.{Result, Ok, Err}
use Rattle.terms.specs.Numbers.{sum}
use Rattle.terms.specs.Outcome.{accepted}
use Rattle.workfile.specs.Content.{Content, closing, encode, longest_file}
use Rattle.workfile.specs.Decode.{tally_of, grow}
use Rattle.workfile.specs.Rules.{Rule}
use Rattle.workfile.specs.Promises.{plan_with, write_of}
use Rattle.workfile.specs.declared.FileRecord.TheVariants.{Word, Value, ErrorOf, End, Nothing}
use Rattle.workfile.proofs.Growing.{SoFar, at_first, one_more, end_same}
use Rattle.workfile.proofs.OneFile.{Counts}
use Rattle.workfile.proofs.Longest.{encode_short}
use Rattle.workfile.proofs.Promises.{counts_write}
use Rattle.entry.specs.Text.{text_lines}
use Rattle.entry.specs.Records.{record_in}
use Rattle.entry.specs.declared.Notation.{Notation}
use Rattle.entry.specs.declared.Record.{Record}
use Rattle.entry.specs.declared.Record.TheVariants as line
use Rattle.records.proofs.Judging.{clash}
use Rattle.notation.specs.declared.{Fault.Fault, State.State}
use Rattle.entry.specs.declared.Wrong.{Wrong}
use Rattle.workfile.specs.declared.Contents.{Contents}
use Rattle.notation.specs.Contents.{Reading, says, reads, taken_of, grown, empty_content, state_of, go_on, read_lines, text_of}
use Rattle.notation.specs.Parse.{ParsePromise}
use Rattle.notation.proofs.Taking.{took}
use Rattle.notation.proofs.Passing.{ending, its_content}

-- what the end of a text completes has a file
end_counts : (c : Content) → SoFar c → Counts (grow c (closing c))
end_counts c so =
    let law : Rule (tally_of c) (closing c) = (refl, refl) in
    let more = one_more c (closing c) law so in
    record { few_words = more.few_words; few_lines = more.few_lines; total = more.total; same = end_same c (length c.values) (sum c.values) so law }

-- and so what the lines of a text say
lines_count : (by : Notation) (lines : List (List ℕ)) (line : ℕ) (planned : Bool) (c d : Content) → SoFar c → read_lines by line planned c lines ≡ says d → Counts d
unfolding read_lines ending
lines_count by [] line planned c d so e = subst Counts (its_content planned c line d e) (end_counts c so)
lines_count by (bytes ∷ later) line planned c d so e =
    go (taken_of (state_of planned c) (record_in by bytes)) refl e (λ p. lines_count by later (suc line) p (grown c (record_in by bytes)) d)
  where
    go : (t : Result State Wrong) → taken_of (state_of planned c) (record_in by bytes) ≡ t → go_on t line (λ p. read_lines by (suc line) p (grown c (record_in by bytes)) later) ≡ says d
        → ((p : Bool) → SoFar (grown c (record_in by bytes)) → read_lines by (suc line) p (grown c (record_in by bytes)) later ≡ says d → Counts d) → Counts d
    go (Ok next) q f again = again next.planned (took planned c (record_in by bytes) next so q).so_far f
    go (Err wrong) q f again = clash (cc)

pub text_counts : (by : Notation) (text : List ℕ) (c : Content) → text_of by text ≡ says c → Counts c
unfolding text_of
text_counts by text c e = lines_count by (text_lines text) 1 false empty_content c (at_first (plan_with 0 0 0)) e

-- so what a text says is written, into any room that is as long as the longest file
pub text_writes : (by : Notation) (text : List ℕ) (c : Content) (room : ℕ) → text_of by text ≡ says c → longest_file ≤ room → write_of c room ≡ accepted (encode c)
text_writes by text c room e h = counts_write c room (text_counts by text c e) (omega (arith, encode_short c (text_counts by text c e)))

-- the lines of L that a text has
abbrev pub line_in : Record → ℕ
line_in line.Nothing = 0
line_in (line.Plan level te ae) = 0
line_in line.Stratum = 0
line_in (line.Filed (Word w)) = 0
line_in (line.Filed (Value v)) = 1
line_in (line.Filed (ErrorOf u l n)) = 0
line_in (line.Filed (End n s)) = 0
line_in (line.Filed Nothing) = 0
line_in (line.Unreadable wrong) = 0

abbrev pub lines_told : Notation → List (List ℕ) → ℕ
lines_told by [] = 0
lines_told by (bytes ∷ later) = line_in (record_in by bytes) + lines_told by later

line_grown : (c : Content) (r : Record) → length (grown c r).values ≡ length c.values + line_in r
unfolding grown grow
line_grown c line.Nothing = omega arith
line_grown c (line.Plan level te ae) = omega arith
line_grown c line.Stratum = omega arith
line_grown c (line.Filed (Word w)) = omega arith
line_grown c (line.Filed (Value v)) = length-append c.values (v ∷ [])
line_grown c (line.Filed (ErrorOf u l n)) = omega arith
line_grown c (line.Filed (End n s)) = omega arith
line_grown c (line.Filed Nothing) = omega arith
line_grown c (line.Unreadable wrong) = omega arith

end_values : (c : Content) → (grow c (closing c)).values ≡ c.values
unfolding grow
end_values c = refl

lines_valued : (by : Notation) (lines : List (List ℕ)) (line : ℕ) (planned : Bool) (c d : Content) → read_lines by line planned c lines ≡ says d → length d.values ≡ length c.values + lines_told by lines
unfolding read_lines ending
lines_valued by [] line planned c d e =
    let same : length (grow c (closing c)).values ≡ length d.values = ap (λ (c : Content). length c.values) (its_content planned c line d e) in
    omega (arith, same, ap length (end_values c))
lines_valued by (bytes ∷ later) line planned c d e =
    go (taken_of (state_of planned c) (record_in by bytes)) e (λ p. lines_valued by later (suc line) p (grown c (record_in by bytes)) d)
  where
    go : (t : Result State Wrong) → go_on t line (λ p. read_lines by (suc line) p (grown c (record_in by bytes)) later) ≡ says d
        → ((p : Bool) → read_lines by (suc line) p (grown c (record_in by bytes)) later ≡ says d → length d.values ≡ length (grown c (record_in by bytes)).values + lines_told by later)
        → length d.values ≡ length c.values + (line_in (record_in by bytes) + lines_told by later)
    go (Ok next) f again = omega (arith, again next.planned f, line_grown c (record_in by bytes))
    go (Err wrong) f again = clash (cc)

-- a text's content has as many book values as the text has lines of L
pub lines_counted : (by : Notation) (text : List ℕ) (c : Content) → text_of by text ≡ says c → length c.values ≡ lines_told by (text_lines text)
unfolding text_of
lines_counted by text c e = omega (arith, lines_valued by (text_lines text) 1 false empty_content c e)

-- two answers to a text that say the same are the same
pub said_once : {A : Type 0} (r s : Result A Fault) → reads r ≡ reads s → r ≡ s
said_once {A} (Ok a) (Ok b) e = let same : ◌≡◌ {A = Reading A} (says a) (says b) = e in let q : a ≡ b = cc in ap Ok q
said_once (Ok a) (Err g) e = clash (cc)
said_once (Err f) (Ok b) e = clash (cc)
said_once (Err f) (Err g) e =
    let l : f.line ≡ g.line = cc in
    let w : f.wrong ≡ g.wrong = cc in
    λ i. Err (record { line = l i; wrong = w i })

-- any two results that keep the promise agree
pub record Agree (r s : Result Contents Fault) (w v : List ℕ) (e : List ℤ) (w' v' : List ℕ) (e' : List ℤ) : Type 0 where
  pub answers : r ≡ s
  pub words : w ≡ w'
  pub values : v ≡ v'
  pub errors : e ≡ e'

pub parsed_once : {by : Notation} {text w v w₁ v₁ w₂ v₂ : List ℕ} {e e₁ e₂ : List ℤ} {r s : Result Contents Fault} → ParsePromise by text w v e r w₁ v₁ e₁ → ParsePromise by text w v e s w₂ v₂ e₂
    → Agree r s w₁ v₁ e₁ w₂ v₂ e₂
parsed_once {r = r} {s = s} p q =
    record {
      answers = said_once r s (p.answer ∙ sym q.answer);
      words = p.words_left ∙ sym q.words_left;
      values = p.values_left ∙ sym q.values_left;
      errors = p.errors_left ∙ sym q.errors_left;
    }
