-- A pass over a text, line by line: what is known before each line, at a fault, and at the end. Assumes nothing.
use mathlib.Core.Path.{◌≡◌, refl, sym, ap, ◌∙◌}
use mathlib.Core.Bool.{Bool, true, false}
use mathlib.Core.List.{List}
use Prim.Native.Nat.{ℕ, suc, ◌+◌, ◌-◌, ◌≤◌, ◌<◌}
use native.Mathlib.Numerals.{add-one}
use native.Mathlib.Omega.{arith}
use lib.ListN.{length, drop}
use Rattle.std.specs.Prelude.{Result, Ok, Err}
use Rattle.terms.specs.Numbers.{pick}
use Rattle.workfile.specs.Content.{Content, closing}
use Rattle.workfile.specs.Decode.{grow}
use Rattle.workfile.specs.Promises.{plan_with}
use Rattle.workfile.specs.declared.Contents.{Contents}
use Rattle.workfile.proofs.Growing.{SoFar, at_first}
use Rattle.entry.specs.Text.{text_lines}
use Rattle.entry.specs.Steps.{line_after, record_at_line}
use Rattle.entry.specs.declared.Notation.{Notation}
use Rattle.entry.specs.declared.Wrong.{Wrong}
use Rattle.entry.specs.declared.Wrong.TheVariants.{NoPlan}
use Rattle.entry.proofs.TextLines.{lines_at, line_later, no_lines}
use Rattle.records.proofs.Judging.{clash}
use Rattle.notation.specs.Contents.{Reading, says, faulty, reads, taken_of, grown, empty_content, state_of, go_on, read_lines, text_of}
use Rattle.notation.specs.Parse.{reading_counts}
use Rattle.notation.specs.Steps.{turn_with, turn_of, end_of}
use Rattle.notation.specs.declared.State.{State}
use Rattle.notation.specs.declared.Fault.{Fault}
use Rattle.notation.specs.declared.Turn.{Turn}
use Rattle.notation.proofs.Taking.{Took, took}

-- a line that is taken is the one at the place, and the next begins after it
pub record Went (by : Notation) (text : List ℕ) (at : ℕ) (s : State) (turn : Turn) : Type 0 where
  pub its : turn.found ≡ record_at_line by text at
  pub judgement : taken_of s (record_at_line by text at) ≡ Ok turn.state
  pub place : turn.next ≡ line_after text at

module _ (by : Notation) (text : List ℕ) (at : ℕ) (s : State) where
  went : {turn : Turn} → turn_of by text at s ≡ Ok turn → Went by text at s turn
  unfolding turn_of
  went {turn} = go (taken_of s (record_at_line by text at)) refl
    where
      go : (t : Result State Wrong) → taken_of s (record_at_line by text at) ≡ t → turn_with (record_at_line by text at) (line_after text at) t ≡ Ok turn → Went by text at s turn
      go (Ok u) q e =
          let same : record { found = record_at_line by text at; state = u; next = line_after text at } ≡ turn = cc in
          record { its = sym (ap (λ (t : Turn). t.found) same); judgement = q ∙ ap Ok (ap (λ (t : Turn). t.state) same); place = sym (ap (λ (t : Turn). t.next) same) }
      go (Err wrong) q e = clash (cc)

  stopped : {wrong : Wrong} → turn_of by text at s ≡ Err wrong → taken_of s (record_at_line by text at) ≡ Err wrong
  unfolding turn_of
  stopped {wrong} = go (taken_of s (record_at_line by text at)) refl
    where
      go : (t : Result State Wrong) → taken_of s (record_at_line by text at) ≡ t → turn_with (record_at_line by text at) (line_after text at) t ≡ Err wrong → taken_of s (record_at_line by text at) ≡ Err wrong
      go (Ok u) q e = clash (cc)
      go (Err other) q e = let same : other ≡ wrong = cc in q ∙ ap Err same

-- before a line: the content of those before it, from which the lines that follow give what the whole text does
pub record Stands (by : Notation) (text : List ℕ) (at line : ℕ) (s : State) : Type 0 where
  pub read : Content
  pub state : state_of s.planned read ≡ s
  pub so_far : SoFar read
  pub same : read_lines by line s.planned read (text_lines (drop at text)) ≡ text_of by text
  pub within : at ≤ length text
  pub passed : line ≤ at + 1

unfoldable pub starts : {by : Notation} {text : List ℕ} {s : State} → s ≡ state_of false empty_content → Stands by text 0 1 s
unfolding text_of
starts {by} {text} {s} e =
    record {
      read = empty_content;
      state = ap (λ (u : State). state_of u.planned empty_content) e ∙ sym e;
      so_far = at_first (plan_with 0 0 0);
      same = ap (λ (u : State). read_lines by 1 u.planned empty_content (text_lines text)) e;
      within = omega arith;
      passed = omega arith;
    }

-- at the end of the text
unfoldable pub ending : Bool → Content → ℕ → Reading Content
ending planned c line = pick planned (says (grow c (closing c))) (faulty NoPlan line)

ended_as : (planned : Bool) (c : Content) (line : ℕ) → end_of (state_of planned c) line ≡ reading_counts (ending planned c line)
unfolding ending end_of grow
ended_as true c line = refl
ended_as false c line = refl

pub its_content : (planned : Bool) (c : Content) (line : ℕ) (d : Content) → ending planned c line ≡ says d → grow c (closing c) ≡ d
unfolding ending
its_content true c line d e = cc
its_content false c line d e = clash (cc)

module _ {by : Notation} {text : List ℕ} {at line : ℕ} {s : State} (st : Stands by text at line s) where
  pub whole : length text ≤ at → text_of by text ≡ ending s.planned st.read line
  unfolding ending read_lines
  whole h = sym st.same ∙ ap (read_lines by line s.planned st.read) (no_lines text h)

  pub finished : length text ≤ at → (r : Result Contents Fault) → reads r ≡ end_of s line → reads r ≡ reading_counts (text_of by text)
  finished h r e = e ∙ ap (λ (u : State). end_of u line) (sym st.state) ∙ ended_as s.planned st.read line ∙ ap reading_counts (sym (whole h))

  -- at a line
  module _ (inside : at < length text) {r : Result Turn Wrong} (read : r ≡ turn_of by text at s) where
    here : text_of by text ≡ go_on (taken_of s (record_at_line by text at)) line (λ planned. read_lines by (suc line) planned (grown st.read (record_at_line by text at)) (text_lines (drop (line_after text at) text)))
    unfolding read_lines
    here =
        sym st.same ∙ ap (read_lines by line s.planned st.read) (lines_at text inside)
        ∙ ap (λ (u : State). go_on (taken_of u (record_at_line by text at)) line (λ planned. read_lines by (suc line) planned (grown st.read (record_at_line by text at)) (text_lines (drop (line_after text at) text)))) st.state

    pub on_with : (t : Result State Wrong) → taken_of s (record_at_line by text at) ≡ t
        → text_of by text ≡ go_on t line (λ planned. read_lines by (suc line) planned (grown st.read (record_at_line by text at)) (text_lines (drop (line_after text at) text)))
    on_with t e =
        here ∙ ap (λ (t : Result State Wrong). go_on t line (λ planned. read_lines by (suc line) planned (grown st.read (record_at_line by text at)) (text_lines (drop (line_after text at) text)))) e

    pub fault_here : {wrong : Wrong} → r ≡ Err wrong → text_of by text ≡ faulty wrong line
    fault_here {wrong} e = on_with (Err wrong) (stopped by text at s (sym read ∙ e))

    pub found_fault : {wrong : Wrong} → r ≡ Err wrong → faulty wrong line ≡ reading_counts (text_of by text)
    found_fault e = sym (ap reading_counts (fault_here e))

    module _ {turn : Turn} (e : r ≡ Ok turn) where
      pub step : Went by text at s turn
      step = went by text at s (sym read ∙ e)

      pub taken_here : Took st.read turn.found turn.state
      taken_here =
          let judgement = ap (λ (u : State). taken_of u turn.found) st.state ∙ ap (taken_of s) step.its ∙ step.judgement in
          took s.planned st.read turn.found turn.state st.so_far judgement

      pub less : length text - turn.next < length text - at
      less = omega (arith, step.place, line_later text inside)

      unfoldable pub onward : Stands by text turn.next (line + 1) turn.state
      onward =
          record {
            read = grown st.read turn.found;
            state = taken_here.state;
            so_far = taken_here.so_far;
            same = (λ i. read_lines by (add-one line i) turn.state.planned (grown st.read (step.its i)) (text_lines (drop (step.place i) text))) ∙ sym (on_with (Ok turn.state) step.judgement);
            within = omega (arith, step.place, line_later text inside);
            passed = omega (arith, step.place, line_later text inside, st.passed);
          }
