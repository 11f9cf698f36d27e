-- Each answer of the code whose value a wrong program changes, by the tests that led to it. Assumes nothing.
use Rattle.std.specs.Prelude.{Option, Result, Ok, Err, Some, None, SomeIff}
use Rattle.std.specs.Result.{result_ok}
use mathlib.Core.Path.{◌≡◌, sym, ap, ◌∙◌}
use mathlib.Core.Bool.{true}
use Prim.Native.Nat.{ℕ, ◌+◌, ◌≤◌, ◌<◌}
use native.Mathlib.Omega.{arith}
use borrow.Author.Tests.{le-ltb, lt-leb}
use lib.ListN.{get_or, set}
use Rattle.terms.specs.declared.Refusal.{Refusal}
use Rattle.terms.specs.Limits.{most_judgements}
use Rattle.terms.specs.Outcome.{accepted}
use Rattle.judge.specs.declared.Judgement.{Judgement}
use Rattle.season.specs.declared.{Judged.Judged, Tally.Tally}
use Rattle.season.specs.Tally.{Entry, most_sum, leads_of, passes_of, with_judged, with_not_judged}
use Rattle.season.specs.Add.{entry_of, settled_of, add_of}

-- a judgement's answer as it is added
pub was_judged : (level book : ℕ) (answer : Result Judgement Refusal) (j : Judgement) → result_ok answer ≡ Some j →
    Some (record { level = level; book = book; limit = j.upper_limit; verdict = j.verdict }) ≡ entry_of level book answer
unfolding entry_of
was_judged level book (Ok k) j e = let same : k ≡ j = cc in sym (ap (λ (i : Judgement). entry_of level book (Ok i)) same)
was_judged level book (Err why) j e = let z : ◌≡◌ {A = ℕ} 0 1 = cc in absurd (omega arith)

-- a sum of 64 bits
abbrev pub Sum : ℕ → ℕ → ℕ → Type 0
Sum a b sum = (sum ≡ a + b) × (sum ≤ most_sum)

pub summed : (a b : ℕ) {sum : ℕ} (r : Option ℕ) → SomeIff r (a + b < 18446744073709551616) (a + b) → r ≡ Some sum → Sum a b sum
summed a b {sum} (Some x) h e = let same : x ≡ sum = cc in (sym same ∙ h.1, omega (arith, h.0, h.1, same))
summed a b None h e = let z : ◌≡◌ {A = ℕ} 0 1 = cc in absurd (omega arith)

-- one judgement at a known place of the counts, where no sum passes 64 bits
has_room : (t : Tally) (at : ℕ) (j : Judged) {books limits count : ℕ} → Sum t.books j.book books → Sum t.limits j.limit limits → Sum (get_or t.counts at 0) 1 count →
    accepted (with_judged t at j) ≡ settled_of t at j
unfolding settled_of passes_of
has_room t at j b l c =
    let for_book = le-ltb most_sum (t.books + j.book) (omega (arith, b.0, b.1)) in
    let for_limit = le-ltb most_sum (t.limits + j.limit) (omega (arith, l.0, l.1)) in
    let for_one = le-ltb most_sum (get_or t.counts at 0 + 1) (omega (arith, c.0, c.1)) in
    simp (for_book, for_limit, for_one)

-- the tally with the sums and the count, and with this one leading
pub leading : (t : Tally) (at : ℕ) (j : Judged) {books limits count : ℕ} → Sum t.books j.book books → Sum t.limits j.limit limits → Sum (get_or t.counts at 0) 1 count →
    leads_of j.limit j.book t.worst_limit t.worst_book ≡ true →
    accepted
    (record {
      counts = set t.counts at count;
      books = books;
      limits = limits;
      refused = t.refused;
      added = t.added + 1;
      worst = t.added;
      worst_limit = j.limit;
      worst_book = j.book;
    }) ≡ settled_of t at j
unfolding with_judged
leading t at j b l c lead =
    let has : accepted (with_judged t at j) ≡ settled_of t at j = has_room t at j b l c in
    (λ i. accepted
    (record {
      counts = set t.counts at (c.0 i);
      books = b.0 i;
      limits = l.0 i;
      refused = t.refused;
      added = t.added + 1;
      worst = t.added;
      worst_limit = j.limit;
      worst_book = j.book;
    })) ∙ (simp lead at has)

-- one that was refused, counted apart
pub not_judged_in : (t : Tally) {e : Entry} → t.added < most_judgements → t.refused < most_judgements → e ≡ None →
    accepted
    (record {
      counts = t.counts;
      books = t.books;
      limits = t.limits;
      refused = t.refused + 1;
      added = t.added + 1;
      worst = t.worst;
      worst_limit = t.worst_limit;
      worst_book = t.worst_book;
    }) ≡ add_of t e
unfolding add_of with_not_judged
not_judged_in t a b is = simp (lt-leb most_judgements t.added a, lt-leb most_judgements t.refused b, is)
