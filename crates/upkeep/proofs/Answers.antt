-- An outcome is said by one answer, so that each promise has one; and which refusals a change and an append give. Assumes nothing.
use Prim.Native.Nat.{ℕ, ◌+◌, ◌/◌, ◌^◌}
use Rattle.terms.specs.declared.Refusal.{Refusal}
use Rattle.std.specs.Prelude.{Result}
use mathlib.Core.Path.{◌≡◌, sym, ◌∙◌}
use mathlib.Core.List.{List, [], ◌∷◌}
use lib.Dec.{ltb}
use lib.ListN.{length, get_or}
use Rattle.terms.specs.Outcome.{accepted, refused, after}
use Rattle.terms.specs.Numbers.{pick}
use Rattle.terms.specs.Limits.{most_lines, most_value, most_total}
use Rattle.terms.proofs.Answers.{says_once}
use Rattle.terms.proofs.Outcomes.{Gives, gives_after, gives_among}
use Rattle.terms.proofs.Tests.{by_test}
use Rattle.ledger.proofs.Laws.{line_numbers}
use Rattle.totals.specs.Summary.{shape_of}
use Rattle.totals.proofs.Answers.{shape_numbers, figure_numbers, shape_gives}
use Rattle.upkeep.specs.Upkeep.{value_judged, figure_moved, new_figures, both_moved, changed_to, appended_to, change_of, most_before, append_of, ChangePromise, AppendPromise}

-- room and summary as one
abbrev pub Both : Type 0
Both = List ℕ × List ℕ

pub change_once : {room : List ℕ} {count : ℕ} {summary : List ℕ} {line value : ℕ} {r s : Result ℕ Refusal} {b c : Both} →
    ChangePromise room count summary line value r b.0 b.1 → ChangePromise room count summary line value s c.0 c.1 → (r ≡ s) × (b ≡ c)
change_once {r = r} {s = s} p q =
    (says_once r s p.answer q.answer, λ i. ((p.room_left ∙ sym q.room_left) i, (p.summary_left ∙ sym q.summary_left) i))

pub append_once : {room : List ℕ} {count : ℕ} {summary : List ℕ} {value : ℕ} {r s : Result ℕ Refusal} {b c : Both} →
    AppendPromise room count summary value r b.0 b.1 → AppendPromise room count summary value s c.0 c.1 → (r ≡ s) × (b ≡ c)
append_once {r = r} {s = s} p q =
    (says_once r s p.answer q.answer, λ i. ((p.room_left ∙ sym q.room_left) i, (p.summary_left ∙ sym q.summary_left) i))

-- the refusals that they give
abbrev pub change_numbers : List ℕ
change_numbers = 2 ∷ 13 ∷ 21 ∷ 20 ∷ 3 ∷ 4 ∷ 31 ∷ []

abbrev pub append_numbers : List ℕ
append_numbers = 2 ∷ 13 ∷ 21 ∷ 3 ∷ 4 ∷ 18 ∷ 31 ∷ []

moved_gives : (block figure old value : ℕ) → Gives figure_numbers (figure_moved block figure old value)
unfolding figure_moved
moved_gives block figure old value =
    by_test (Gives figure_numbers) (ltb (figure + value) old) (λ p. tt) (λ p. by_test (Gives figure_numbers) (ltb (figure + value) (2 ^ 64 + old)) (λ q. tt) (λ q. tt))

both_give : (line value old many figure grand : ℕ) → Gives figure_numbers (both_moved line value old many figure grand)
unfolding both_moved
both_give line value old many figure grand =
    gives_after figure_numbers (λ first. after (λ second. accepted (new_figures first second)) (figure_moved many grand old value)) (figure_moved (line / 256) figure old value)
    (moved_gives (line / 256) figure old value)
    (λ first. gives_after figure_numbers (λ second. accepted (new_figures first second)) (figure_moved many grand old value) (moved_gives many grand old value) (λ second. tt))

judged_gives : (line value old grand : ℕ) → Gives line_numbers (value_judged line value old grand)
unfolding value_judged
judged_gives line value old grand =
    by_test (Gives line_numbers) (ltb most_value value) (λ p. tt) (λ p. by_test (Gives line_numbers) (ltb (most_total + old) (grand + value)) (λ q. tt) (λ q. tt))

changed_give : (line value old many figure grand : ℕ) → Gives change_numbers (changed_to line value old many figure grand)
unfolding changed_to
changed_give line value old many figure grand =
    gives_after change_numbers (λ new. both_moved line new old many figure grand) (value_judged line value old grand)
    (gives_among line_numbers change_numbers tt (value_judged line value old grand) (judged_gives line value old grand))
    (λ new. gives_among figure_numbers change_numbers tt (both_moved line new old many figure grand) (both_give line new old many figure grand))

appended_give : (count room value many figure grand : ℕ) → Gives append_numbers (appended_to count room value many figure grand)
unfolding appended_to
appended_give count room value many figure grand =
    gives_after append_numbers (λ new. pick (ltb count room) (both_moved count new 0 many figure grand) (refused 18 (count + 1))) (value_judged count value 0 grand)
    (gives_among line_numbers append_numbers tt (value_judged count value 0 grand) (judged_gives count value 0 grand))
    (λ new. by_test (Gives append_numbers) (ltb count room)
    (λ p. gives_among figure_numbers append_numbers tt (both_moved count new 0 many figure grand) (both_give count new 0 many figure grand)) (λ p. tt))

pub change_gives : (room : List ℕ) (count : ℕ) (summary : List ℕ) (line value : ℕ) → Gives change_numbers (change_of room count summary line value)
unfolding change_of
change_gives room count summary line value =
    gives_after change_numbers
    (λ many. pick (ltb line count) (changed_to line value (get_or room line 0) many (get_or summary (line / 256) 0) (get_or summary many 0)) (refused 20 0))
    (shape_of most_lines count (length room) (length summary))
    (gives_among shape_numbers change_numbers tt (shape_of most_lines count (length room) (length summary)) (shape_gives most_lines count (length room) (length summary)))
    (λ many. by_test (Gives change_numbers) (ltb line count)
    (λ p. changed_give line value (get_or room line 0) many (get_or summary (line / 256) 0) (get_or summary many 0)) (λ p. tt))

pub append_gives : (room : List ℕ) (count : ℕ) (summary : List ℕ) (value : ℕ) → Gives append_numbers (append_of room count summary value)
unfolding append_of
append_gives room count summary value =
    gives_after append_numbers (λ many. appended_to count (length room) value many (get_or summary (count / 256) 0) (get_or summary many 0)) (shape_of most_before count (length room) (length summary))
    (gives_among shape_numbers append_numbers tt (shape_of most_before count (length room) (length summary)) (shape_gives most_before count (length room) (length summary)))
    (λ many. appended_give count (length room) value many (get_or summary (count / 256) 0) (get_or summary many 0))
