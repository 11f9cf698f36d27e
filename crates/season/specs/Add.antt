-- One entry added to any tally, in the order of K13: 27, 1, 5, 28. Definitions: nothing is assumed.
use Rattle.std.specs.Prelude.{ℕ, ◌≡◌, Bool, true, eqb, leb, get_or, Result, Ok, Err, Some, None}
use Rattle.terms.specs.declared.Refusal.{Refusal}
use Rattle.terms.specs.Limits.{most_judgements}
use Rattle.terms.specs.Outcome.{Outcome, accepted, refused, after, left, says}
use Rattle.terms.specs.Numbers.{pick}
use Rattle.factors.specs.declared.Level.{Level}
use Rattle.judge.specs.declared.Judgement.{Judgement}
use Rattle.factors.specs.Levels.{level_of}
use Rattle.season.specs.declared.{Judged.Judged, Tally.Tally, HandedBack.HandedBack}
use Rattle.season.specs.Tally.{Entry, cell_of, passes_of, with_judged, with_not_judged}

-- a judgement's answer as it is added: its level, its book's total, its upper limit and its verdict
unfoldable pub entry_of : ℕ → ℕ → Result Judgement Refusal → Entry
entry_of level book (Ok judgement) = Some (record { level = level; book = book; limit = judgement.upper_limit; verdict = judgement.verdict })
entry_of level book (Err why) = None

-- what is handed back says the tally with one more, or a refusal's number and place
abbrev pub add_says : HandedBack → Outcome Tally
add_says r = after (λ done. accepted r.tally) (says r.answer)

-- what a method that adds to a tally promises of its outcome and what it hands back
pub record AddPromise (t : Tally) (o : Outcome Tally) (r : HandedBack) : Type 0 where
  pub answer : add_says r ≡ o
  pub tally_left : r.tally ≡ left (λ u. u) t o

-- 28 where a sum would pass 64 bits
abbrev pub passes : Tally → ℕ → Judged → Bool
passes t at j = passes_of t.books j.book t.limits j.limit (get_or t.counts at 0)

unfoldable pub settled_of : Tally → ℕ → Judged → Outcome Tally
settled_of t at j = pick (passes t at j) (refused 28 0) (accepted (with_judged t at j))

-- 5 where the book is 0
unfoldable pub at_level : Tally → Judged → Level → Outcome Tally
at_level t j level = pick (eqb j.book 0) (refused 5 0) (settled_of t (cell_of level j.verdict) j)

-- 1 comes before them
unfoldable pub judged_of : Tally → Judged → Outcome Tally
judged_of t j = after (at_level t j) (level_of j.level)

-- a tally is full where it shows a million added, or a million refused, which are among the added
abbrev pub full : Tally → Bool
full t = pick (leb most_judgements t.added) true (leb most_judgements t.refused)

-- one that was refused meets only 27
abbrev pub entered : Tally → Entry → Outcome Tally
entered t (Some j) = judged_of t j
entered t None = accepted (with_not_judged t)

unfoldable pub add_of : Tally → Entry → Outcome Tally
add_of t e = pick (full t) (refused 27 0) (entered t e)
