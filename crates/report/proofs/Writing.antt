-- The line as the code writes it, and how long it is at most, where every number fits 64 bits. Assumes nothing.
use Prim.Native.Nat.{ℕ, ◌+◌, ◌≤◌}
use Rattle.std.specs.Prelude.{Result, Ok, Err, Option, Some, None}
use Rattle.terms.specs.Outcome.{says}
use mathlib.Core.Path.{◌≡◌, ap, ap₂, ◌∙◌}
use mathlib.Core.List.{List, [], ◌∷◌, ◌++◌, map}
use native.Mathlib.Omega.{arith}
use lib.ListN.{length, length-append}
use Rattle.terms.specs.declared.Refusal.{Refusal}
use Rattle.terms.specs.Refusals.{number, place}
use Rattle.pen.specs.Letters.{letters}
use Rattle.pen.specs.Text.{decimal, line}
use Rattle.pen.specs.Page.{Wrote, Printed}
use Rattle.pen.proofs.Lengths.{Small, decimal_short, line_short}
use Rattle.pen.proofs.Writing.{◌⨾◌, as_text, printed}
use Rattle.sheet.specs.Lines.{refused_line}
use Rattle.salvaging.specs.declared.{OldEnd.OldEnd, Salvaged.Salvaged}
use Rattle.report.specs.Report.{named, kept_text, new_text, old_text, salvaged_text, report_text, Bounded, longest_report}

-- a text that was written is the one that is asked for, and no longer than that may be
bounded_as : {o o' x y : List ℕ} {a a' most more : ℕ} → y ≡ x → most ≤ more → Wrote o a x o' a' → length x ≤ most → Bounded o a y o' a' more
bounded_as e h w s = record { wrote = as_text e w; short = omega (arith, ap length e) }

pub named_laid : (word : List ℕ) (figure : ℕ) {o p q : List ℕ} {a b c : ℕ} → Wrote o a word p b → Wrote p b (32 ∷ decimal figure) q c → Wrote o a (named word figure) q c
unfolding named
named_laid word figure v w = v ⨾ w

named_short : (word : List ℕ) (figure : ℕ) → Small figure → length (named word figure) ≤ length word + 21
unfolding named
named_short word figure small = omega (arith, length-append word (32 ∷ decimal figure), decimal_short figure small)

-- the old Z, and none
pub old_laid : (old : Option OldEnd) {z : OldEnd} {count sum : ℕ} {o p : List ℕ} {a b : ℕ} → old ≡ Some z → z.count ≡ count → z.sum ≡ sum → Small count → Small sum →
    Wrote o a (line (letters " old" ∷ map decimal (count ∷ sum ∷ []))) p b → Bounded o a (old_text old) p b 47
unfolding old_text
old_laid old {z} {count} {sum} is m n c s w =
    bounded_as {most = 47} (ap old_text is ∙ ap₂ (λ (x y : ℕ). line (letters " old" ∷ map decimal (x ∷ y ∷ []))) m n) (omega arith) w
    (omega (arith, line_short (letters " old") (count ∷ sum ∷ []) (c, (s, tt))))

pub none_laid : (old : Option OldEnd) {o p : List ℕ} {a b : ℕ} → old ≡ None → Wrote o a (10 ∷ []) p b → Bounded o a (old_text old) p b 47
unfolding old_text
none_laid old is w = bounded_as {most = 47} (ap old_text is) (omega arith) w (omega arith)

-- four words with their figures, and the old Z
pub salvaged_laid : (s : Salvaged) {o p q r t u : List ℕ} {a b c d e f : ℕ} → Small s.kept → Small s.dropped → Small s.lines → Small s.sum
    → Wrote o a (named (letters "kept") s.kept) p b → Wrote p b (named (letters " dropped") s.dropped) q c
    → Wrote q c (named (letters " lines") s.lines) r d → Wrote r d (named (letters " sum") s.sum) t e → Bounded t e (old_text s.old) u f 47
    → Bounded o a (salvaged_text s) u f longest_report
unfolding salvaged_text kept_text new_text
salvaged_laid s k m l n v w x y z =
    let one = named (letters "kept") s.kept in
    let two = named (letters " dropped") s.dropped in
    let three = named (letters " lines") s.lines in
    let four = named (letters " sum") s.sum in
    let last = old_text s.old in
    record {
      wrote = (v ⨾ w) ⨾ ((x ⨾ y) ⨾ z.wrote);
      short = omega (
        arith,
        length-append (one ++ two) ((three ++ four) ++ last),
        length-append one two,
        length-append (three ++ four) last,
        length-append three four,
        named_short (letters "kept") s.kept k,
        named_short (letters " dropped") s.dropped m,
        named_short (letters " lines") s.lines l,
        named_short (letters " sum") s.sum n,
        z.short,
      );
    }

-- by what the answer says
pub report_refused : (answer : Result Salvaged Refusal) (why : Refusal) {o o' : List ℕ} {a a' : ℕ} → answer ≡ Err why →
    Wrote o a (refused_line (number why) (place why)) o' a' × (length (refused_line (number why) (place why)) ≤ 50) → Bounded o a (report_text (says answer)) o' a' longest_report
unfolding report_text
report_refused answer why is w = bounded_as {most = 50} (ap (λ (b : Result Salvaged Refusal). report_text (says b)) is) (omega arith) w.0 w.1

pub report_kept : (answer : Result Salvaged Refusal) (s : Salvaged) {o o' : List ℕ} {a a' : ℕ} → answer ≡ Ok s → Bounded o a (salvaged_text s) o' a' longest_report →
    Bounded o a (report_text (says answer)) o' a' longest_report
unfolding report_text
report_kept answer s is w = bounded_as {most = longest_report} (ap (λ (b : Result Salvaged Refusal). report_text (says b)) is) (omega arith) w.wrote w.short

pub report_printed : (text : List ℕ) {page page' : List ℕ} {r : ℕ} → longest_report ≤ length page → Bounded page 0 text page' r longest_report → Printed text page r page'
report_printed text room w = printed _ _ _ _ (omega (arith, w.short)) w.wrote
