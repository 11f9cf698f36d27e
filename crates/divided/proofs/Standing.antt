-- The pass over a text: what is known before each line, at a fault, and at the end. Assumes nothing.
use mathlib.Core.Path.{◌≡◌, refl, sym, ap, subst, ◌∙◌}
use mathlib.Core.List.{List, [], ◌∷◌, ◌++◌}
use Prim.Native.Nat.{ℕ, suc, ◌+◌, ◌-◌, ◌^◌, ◌≤◌, ◌<◌}
use native.Mathlib.Numerals.{add-one}
use native.Mathlib.Omega.{arith}
use lib.Dec.{ltb}
use lib.ListN.{length, drop}
use Rattle.entry.specs.Text.{text_lines}
use Rattle.entry.specs.Steps.{line_after, line_at}
use Rattle.entry.specs.declared.Notation.TheVariants.{Programmes}
use Rattle.entry.specs.declared.Wrong.{Wrong}
use Rattle.entry.specs.declared.TextLine.{TextLine}
use Rattle.entry.proofs.TextLines.{lines_at, line_later, no_lines}
use Rattle.notation.specs.Contents.{says}
use Rattle.divided.specs.Divided.{part_of, parts_in, parts_of, lines_before, counts_of, order_of, opened_by, late_by, go_on, ordered_from, divided_of, no_counts, stored_in}
use Rattle.divided.specs.Steps.{no_strata, counts_with, part_taken}
use Rattle.divided.specs.declared.Part.{Part}
use Rattle.divided.specs.declared.Dividing.{Dividing}
use Rattle.std.specs.Prelude.{Result, Ok, Err}
use Rattle.divided.proofs.Counting.{laid_none, runs_of, Keeps, done_with, keeps_on, runs_on, opened_on, late_on, few_on, all_closed}

-- the parts of the lines from a place on
unfoldable pub parts_at : List ℕ → ℕ → List Part
parts_at text at = parts_in (text_lines (drop at text))

-- before a line
pub record Stands (text : List ℕ) (at line : ℕ) (s : Dividing) : Type 0 where
  pub done : List ℕ
  pub keeps : Keeps s done
  pub runs : runs_of (parts_of text) ≡ done ++ ((s.lines + lines_before (parts_at text at)) ∷ counts_of (parts_at text at))
  pub same : ordered_from line (ltb 0 s.strata) s.late (counts_of (parts_of text)) (parts_at text at) ≡ divided_of text
  pub within : at ≤ length text
  pub passed : line ≤ at + 1
  pub few_strata : s.strata ≤ at
  pub few_lines : s.lines ≤ at

stands_first : (text : List ℕ) → Stands text 0 1 no_strata
unfolding divided_of parts_of parts_at
stands_first text =
    record {
      done = [];
      keeps = record { strata = refl; counts = sym (laid_none no_counts) };
      runs = let zero : lines_before (parts_at text 0) ≡ 0 + lines_before (parts_at text 0) = omega arith in ap (λ (n : ℕ). n ∷ counts_of (parts_at text 0)) zero;
      same = refl;
      within = omega arith;
      passed = omega arith;
      few_strata = omega arith;
      few_lines = omega arith;
    }

pub starts : (text : List ℕ) {line : ℕ} {s : Dividing} → line ≡ 1 → s ≡ no_strata → Stands text 0 line s
starts text {line} {s} f e = subst (λ (n : ℕ). Stands text 0 n s) (sym f) (subst (Stands text 0 1) (sym e) (stands_first text))

module _ {text : List ℕ} {at line : ℕ} {s : Dividing} (st : Stands text at line s) where
  -- at a line
  module _ (inside : at < length text) {l : TextLine} (its : l ≡ line_at Programmes text at) {part : Part} (is : part ≡ part_of l.found) where
    parted : parts_at text at ≡ part ∷ parts_at text l.next
    unfolding parts_at
    parted =
        ap parts_in (lines_at text inside)
        ∙ sym (ap (λ (m : TextLine). part_of m.found ∷ parts_at text m.next) its)
        ∙ sym (ap (λ (p : Part). p ∷ parts_at text l.next) is)

    place : l.next ≡ line_after text at
    place = ap (λ (m : TextLine). m.next) its

    pub less : length text - l.next < length text - at
    less = omega (arith, place, line_later text inside)

    pub rooms : length text < 2 ^ 64 → (s.strata + 1 < 2 ^ 64) × (s.lines + 1 < 2 ^ 64)
    rooms h = (omega (arith, st.few_strata), omega (arith, st.few_lines))

    module _ {o : Result Unit Wrong} (order : o ≡ order_of (ltb 0 s.strata) s.late part) where
      here : divided_of text ≡ go_on o line (ordered_from (suc line) (opened_by part (ltb 0 s.strata)) (late_by part s.late) (counts_of (parts_of text)) (parts_at text l.next))
      unfolding ordered_from
      here =
          sym st.same ∙ ap (ordered_from line (ltb 0 s.strata) s.late (counts_of (parts_of text))) parted
          ∙ ap (λ (q : Result Unit Wrong). go_on q line (ordered_from (suc line) (opened_by part (ltb 0 s.strata)) (late_by part s.late) (counts_of (parts_of text)) (parts_at text l.next))) (sym order)

      after : (q : Result Unit Wrong) → o ≡ q → divided_of text ≡ go_on q line (ordered_from (suc line) (opened_by part (ltb 0 s.strata)) (late_by part s.late) (counts_of (parts_of text)) (parts_at text l.next))
      after q e = here ∙ ap (λ (q : Result Unit Wrong). go_on q line (ordered_from (suc line) (opened_by part (ltb 0 s.strata)) (late_by part s.late) (counts_of (parts_of text)) (parts_at text l.next))) e

      pub out_of_order : {wrong : Wrong} → o ≡ Err wrong → Err (record { line = line; wrong = wrong }) ≡ stored_in (divided_of text)
      unfolding stored_in
      out_of_order {wrong} e = sym (ap stored_in (after (Err wrong) e))

      onward_as : o ≡ Ok tt → Stands text l.next (line + 1) (part_taken s part)
      onward_as e =
          record {
            done = done_with s part st.done;
            keeps = keeps_on s part st.done st.keeps;
            runs = st.runs ∙ ap (λ (ps : List Part). st.done ++ ((s.lines + lines_before ps) ∷ counts_of ps)) parted ∙ runs_on s part st.done (parts_at text l.next);
            same = (λ i. ordered_from (add-one line i) (sym (opened_on s part) i) (sym (late_on s part) i) (counts_of (parts_of text)) (parts_at text l.next)) ∙ sym (after (Ok tt) e);
            within = omega (arith, place, line_later text inside);
            passed = omega (arith, place, line_later text inside, st.passed);
            few_strata = omega (arith, place, line_later text inside, st.few_strata, few_on s part);
            few_lines = omega (arith, place, line_later text inside, st.few_lines, few_on s part);
          }

      pub onward : o ≡ Ok tt → {next : Dividing} → next ≡ part_taken s part → Stands text l.next (line + 1) next
      onward e f = subst (Stands text l.next (line + 1)) (sym f) (onward_as e)

  -- at the end
  module _ (h : length text ≤ at) where
    none_left : parts_at text at ≡ []
    unfolding parts_at
    none_left = ap parts_in (no_lines text h)

    says_all : divided_of text ≡ says (counts_of (parts_of text))
    unfolding ordered_from
    says_all = sym st.same ∙ ap (ordered_from line (ltb 0 s.strata) s.late (counts_of (parts_of text))) none_left

    ran : runs_of (parts_of text) ≡ st.done ++ ((s.lines + 0) ∷ [])
    unfolding lines_before counts_of
    ran = st.runs ∙ ap (λ (ps : List Part). st.done ++ ((s.lines + lines_before ps) ∷ counts_of ps)) none_left

    pub finished : {n : ℕ} {counts : List ℕ} → n ≡ s.strata → counts ≡ counts_with s → Ok (record { strata = n; counts = counts }) ≡ stored_in (divided_of text)
    unfolding stored_in
    finished f e =
        let all = all_closed s st.done (counts_of (parts_of text)) st.keeps (lines_before (parts_of text)) ran in
        (λ i. Ok (record { strata = (f ∙ sym all.0) i; counts = (e ∙ sym all.1) i })) ∙ sym (ap stored_in says_all)
