-- What a list of judgements gives: each figure of the tally in the request's words, and what is answered, said of the list alone.
-- Definitions: nothing is assumed.
use Rattle.std.specs.Prelude.{ℕ, ◌+◌, ◌<◌, ◌≡◌, Bool, true, false, List, [], ◌∷◌, ◌++◌, map, ◌⊎◌, eqb, ltb, leb, length, get_or, Some, None}
use Rattle.terms.specs.Limits.{most_judgements}
use Rattle.terms.specs.Numbers.{pick, sum}
use Rattle.terms.specs.Outcome.{Outcome, accepted, refused, after, left}
use Rattle.factors.specs.declared.Level.{Level}
use Rattle.factors.specs.Levels.{percent_of, level_of}
use Rattle.judge.specs.declared.Verdict.{Verdict}
use Rattle.ratio.specs.Ratio.{exceeds}
use Rattle.season.specs.declared.{Judged.Judged, Tally.Tally}
use Rattle.season.specs.Tally.{Entry, most_sum, column_of, cell_of, no_tally}
use Rattle.season.specs.Add.{add_of}

-- a judgement at this level with this verdict
abbrev pub in_cell : Level → Verdict → Entry → Bool
in_cell level verdict (Some j) = pick (eqb j.level (percent_of level)) (eqb (column_of j.verdict) (column_of verdict)) false
in_cell level verdict None = false

abbrev pub is_refused : Entry → Bool
is_refused (Some j) = false
is_refused None = true

-- how many entries pass a test
abbrev pub count_of : (Entry → Bool) → List Entry → ℕ
count_of test [] = 0
count_of test (e ∷ l) = pick (test e) 1 0 + count_of test l

abbrev pub book_of : Entry → ℕ
book_of (Some j) = j.book
book_of None = 0

abbrev pub limit_of : Entry → ℕ
limit_of (Some j) = j.limit
limit_of None = 0

-- a judgement stands at this place, counted from 0 with the refused ones
abbrev pub At : List Entry → ℕ → Judged → Type 0
At l place j = get_or l place None ≡ Some j

-- a place leads: no judgement has a larger share of its book, and every earlier one has a smaller share
pub record Leads (l : List Entry) (place : ℕ) (j : Judged) : Type 0 where
  pub here : At l place j
  pub most : (k : ℕ) (i : Judged) → At l k i → exceeds i.limit i.book j.limit j.book ≡ false
  pub earliest : (k : ℕ) (i : Judged) → k < place → At l k i → exceeds j.limit j.book i.limit i.book ≡ true

-- there is no judgement, and the place is 0
pub record Nothing (l : List Entry) (place limit book : ℕ) : Type 0 where
  pub none : (k : ℕ) (i : Judged) → At l k i → ⊥
  pub place_zero : place ≡ 0
  pub limit_zero : limit ≡ 0
  pub book_zero : book ≡ 0

-- or there is one that leads at the place, with this limit and this book
pub record Something (l : List Entry) (place limit book : ℕ) : Type 0 where
  pub first : Judged
  pub leads : Leads l place first
  pub its_limit : limit ≡ first.limit
  pub its_book : book ≡ first.book

-- every figure of a tally is what the list gives; no judgement of the list has a book of 0
pub record Tells (l : List Entry) (t : Tally) : Type 0 where
  pub cells : length t.counts ≡ 27
  pub counts : (level : Level) (verdict : Verdict) → get_or t.counts (cell_of level verdict) 0 ≡ count_of (in_cell level verdict) l
  pub books : t.books ≡ sum (map book_of l)
  pub limits : t.limits ≡ sum (map limit_of l)
  pub refused : t.refused ≡ count_of is_refused l
  pub added : t.added ≡ length l
  pub worst : Nothing l t.worst t.worst_limit t.worst_book ⊎ Something l t.worst t.worst_limit t.worst_book
  pub a_book : (k : ℕ) (i : Judged) → At l k i → 0 < i.book

-- a list with one more at its end
abbrev pub more : List Entry → Entry → List Entry
more l e = l ++ (e ∷ [])

-- what the list alone says of one entry more: 27 after a million, 1, 5, and 28 where the sum of the books or of the limits would pass 64 bits
abbrev pub sum_passes : List Entry → Judged → Bool
sum_passes l j = pick (ltb most_sum (sum (map book_of l) + j.book)) true (ltb most_sum (sum (map limit_of l) + j.limit))

abbrev pub admitted_at : List Entry → Judged → Level → Outcome (List Entry)
admitted_at l j level = pick (eqb j.book 0) (refused 5 0) (pick (sum_passes l j) (refused 28 0) (accepted (more l (Some j))))

abbrev pub admitted_in : List Entry → Entry → Outcome (List Entry)
admitted_in l (Some j) = after (admitted_at l j) (level_of j.level)
admitted_in l None = accepted (more l None)

unfoldable pub admitted : List Entry → Entry → Outcome (List Entry)
admitted l e = pick (leb most_judgements (length l)) (refused 27 0) (admitted_in l e)

-- a list and a tally answer alike: by the same refusal, or the tally tells the list
abbrev pub Alike : Outcome (List Entry) → Outcome Tally → Type 0
Alike (accepted l) (accepted t) = Tells l t
Alike (refused n p) (refused m q) = (n ≡ m) × (p ≡ q)
Alike (accepted l) (refused m q) = ⊥
Alike (refused n p) (accepted t) = ⊥

-- entries offered one after the other: which of them were added, and what the tally comes to
unfoldable pub added_from : List Entry → List Entry → List Entry
unfolding admitted
added_from l [] = l
added_from l (e ∷ es) = added_from (left (λ m. m) l (admitted l e)) es

unfoldable pub tally_from : Tally → List Entry → Tally
unfolding add_of
tally_from t [] = t
tally_from t (e ∷ es) = tally_from (left (λ u. u) t (add_of t e)) es

unfoldable pub added_of : List Entry → List Entry
unfolding added_from
added_of offered = added_from [] offered

unfoldable pub tally_of : List Entry → Tally
unfolding tally_from no_tally
tally_of offered = tally_from no_tally offered
