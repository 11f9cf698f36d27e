-- An outcome is said by one answer, so that each promise has one; and which refusals each operation gives. Assumes nothing.
use Prim.Native.Nat.{ℕ, suc, ◌+◌, ◌*◌, ◌-◌}
use Rattle.terms.specs.declared.Refusal.{Refusal}
use Rattle.std.specs.Prelude.{Option, Result, Ok, Err}
use Rattle.terms.specs.declared.Item.{Item}
use mathlib.Core.Path.{◌≡◌, sym, ap, ◌∙◌}
use mathlib.Core.List.{List, [], ◌∷◌}
use lib.Dec.{ltb, eqb}
use lib.ListN.{length, get_or, take, drop}
use Rattle.terms.specs.Outcome.{Outcome, accepted, after}
use Rattle.terms.specs.Limits.{most_lines}
use Rattle.terms.proofs.Answers.{says_once}
use Rattle.terms.proofs.Outcomes.{Gives, gives_after, gives_among, never, refused_once}
use Rattle.terms.proofs.Tests.{by_test}
use Rattle.ledger.specs.Ledger.{running_total}
use Rattle.ledger.proofs.Laws.{line_numbers, running_gives}
use Rattle.totals.specs.Summary.{blocks, in_use, summary_for, shape_of, build_of, grand_total_of, BuildPromise, TotalPromise}
use Rattle.totals.specs.Lookup.{find_says, line_within, block_by, block_in, find_in, find_of, FindPromise}
use Rattle.totals.specs.Comparison.{first_wrong, compared_of, CheckPromise}

-- a line by its number
one_line : {o : Outcome ℕ} (r s : Result Item Refusal) → find_says r ≡ o → find_says s ≡ o → r ≡ s
one_line (Ok a) (Ok b) p q =
    let same : ◌≡◌ {A = Outcome ℕ} (accepted a.0) (accepted b.0) = p ∙ sym q in
    let inner : a.0 ≡ b.0 = cc in
    λ i. Ok (record { 0 = inner i })
one_line (Ok a) (Err why) p q = never (q ∙ sym p)
one_line (Err why) (Ok a) p q = never (p ∙ sym q)
one_line (Err why) (Err other) p q = ap Err (refused_once why other (p ∙ sym q))

-- so each promise has one answer, and leaves one summary
module _ {room : List ℕ} {count : ℕ} {summary : List ℕ} where
  pub build_once : {r s : Result ℕ Refusal} {b c : List ℕ} → BuildPromise room count summary r b → BuildPromise room count summary s c → (r ≡ s) × (b ≡ c)
  build_once {r = r} {s = s} p q = (says_once r s p.answer q.answer, p.summary_left ∙ sym q.summary_left)

  pub total_once : {r s : Result ℕ Refusal} → TotalPromise room count summary r → TotalPromise room count summary s → r ≡ s
  total_once {r = r} {s = s} p q = says_once r s p.answer q.answer

  pub find_once : {cent : ℕ} {r s : Result Item Refusal} → FindPromise room count summary cent r → FindPromise room count summary cent s → r ≡ s
  find_once {r = r} {s = s} p q = one_line r s p.answer q.answer

  pub check_once : {r s : Result (Option ℕ) Refusal} → CheckPromise room count summary r → CheckPromise room count summary s → r ≡ s
  check_once {r = r} {s = s} p q = says_once r s p.answer q.answer

-- the refusals of the shape, which are those of the total, of building and the check, and of finding a line
abbrev pub shape_numbers : List ℕ
shape_numbers = 2 ∷ 13 ∷ 21 ∷ []

abbrev pub build_numbers : List ℕ
build_numbers = 2 ∷ 13 ∷ 21 ∷ 3 ∷ 4 ∷ []

abbrev pub find_numbers : List ℕ
find_numbers = 2 ∷ 13 ∷ 21 ∷ 20 ∷ 31 ∷ []

-- that of a wrong figure
abbrev pub figure_numbers : List ℕ
figure_numbers = 31 ∷ []

pub shape_gives : (most count room beside : ℕ) → Gives shape_numbers (shape_of most count room beside)
unfolding shape_of
shape_gives most count room beside =
    by_test (Gives shape_numbers) (ltb most count) (λ p. tt)
    (λ p. by_test (Gives shape_numbers) (ltb room count) (λ q. tt)
    (λ q. by_test (Gives shape_numbers) (eqb beside (blocks room + 1)) (λ t. tt) (λ t. tt)))

pub build_gives : (room : List ℕ) (count beside : ℕ) → Gives build_numbers (build_of room count beside)
unfolding build_of
build_gives room count beside =
    gives_after build_numbers (λ many. running_total (in_use room count)) (shape_of most_lines count (length room) beside)
    (gives_among shape_numbers build_numbers tt (shape_of most_lines count (length room) beside) (shape_gives most_lines count (length room) beside))
    (λ many. gives_among line_numbers build_numbers tt (running_total (in_use room count)) (running_gives (in_use room count)))

pub total_gives : (room : List ℕ) (count : ℕ) (summary : List ℕ) → Gives shape_numbers (grand_total_of room count summary)
unfolding grand_total_of
total_gives room count summary =
    gives_after shape_numbers (λ many. accepted (get_or summary many 0)) (shape_of most_lines count (length room) (length summary))
    (shape_gives most_lines count (length room) (length summary)) (λ many. tt)

line_gives : (block line cent : ℕ) (l : List ℕ) → Gives figure_numbers (line_within block line cent l)
unfolding line_within
line_gives block line cent [] = tt
line_gives block line cent (v ∷ l) = by_test (Gives figure_numbers) (ltb cent v) (λ p. tt) (λ p. line_gives block (suc line) (cent - v) l)

block_gives : (size block cent : ℕ) (figures l : List ℕ) → Gives figure_numbers (block_by size block cent figures l)
block_gives size block cent [] l = tt
block_gives size block cent (f ∷ figures) l =
    by_test (Gives figure_numbers) (ltb cent f) (λ p. line_gives block (block * size) cent (take size l)) (λ p. block_gives size (suc block) (cent - f) figures (drop size l))

find_in_gives : (many : ℕ) (lines summary : List ℕ) (cent : ℕ) → Gives find_numbers (find_in many lines summary cent)
unfolding find_in block_in
find_in_gives many lines summary cent =
    by_test (Gives find_numbers) (ltb cent (get_or summary many 0))
    (λ p. gives_among figure_numbers find_numbers tt (block_by 256 0 cent (take many summary) lines) (block_gives 256 0 cent (take many summary) lines)) (λ p. tt)

pub find_gives : (room : List ℕ) (count : ℕ) (summary : List ℕ) (cent : ℕ) → Gives find_numbers (find_of room count summary cent)
unfolding find_of
find_gives room count summary cent =
    gives_after find_numbers (λ many. find_in many (in_use room count) summary cent) (shape_of most_lines count (length room) (length summary))
    (gives_among shape_numbers find_numbers tt (shape_of most_lines count (length room) (length summary)) (shape_gives most_lines count (length room) (length summary)))
    (λ many. find_in_gives many (in_use room count) summary cent)

pub check_gives : (room : List ℕ) (count : ℕ) (summary : List ℕ) → Gives build_numbers (compared_of room count summary)
unfolding compared_of
check_gives room count summary =
    let compare : ℕ → Outcome (Option ℕ) = λ total. accepted (first_wrong 0 (summary_for room count) summary) in
    gives_after build_numbers (λ many. after compare (running_total (in_use room count))) (shape_of most_lines count (length room) (length summary))
    (gives_among shape_numbers build_numbers tt (shape_of most_lines count (length room) (length summary)) (shape_gives most_lines count (length room) (length summary)))
    (λ many. gives_after build_numbers compare (running_total (in_use room count)) (gives_among line_numbers build_numbers tt (running_total (in_use room count)) (running_gives (in_use room count))) (λ total. tt))
