-- The tally of a season for C: a judgement's own result handed on. Assumes nothing.
use mathlib.Core.Path.{◌≡◌, refl, subst}
use Rattle.std.specs.Prelude.{Result, Ok, Err}
use Rattle.terms.specs.Outcome.{says}
use Rattle.judge.specs.declared.Judgement.{Judgement}
use Prim.Native.Nat.{ℕ}
use Rattle.terms.specs.declared.Refusal.{Refusal}
use Rattle.judge.specs.declared.{Verdict.Verdict}
use Rattle.judge.specs.declared.Verdict.TheVariants.{Below, Inconclusive, Above}
use Rattle.season.specs.declared.{Tally.Tally, HandedBack.HandedBack}
use Rattle.season.specs.Tally.{Entry}
use Rattle.season.specs.Add.{entry_of, add_of, AddPromise}
use Rattle.results.specs.Results.{verdict_number, judge_seen}
use Rattle.results.specs.Season.{judged_by, entry_from}

-- what is promised of an entry is promised of the judgement that it is
pub added_from : (t : Tally) (e f : Entry) {r : HandedBack} → e ≡ f → AddPromise t (add_of t e) r → AddPromise t (add_of t f) r
added_from t e f {r} same m = subst (λ (x : Entry). AddPromise t (add_of t x) r) same m

-- a judgement's own result can be handed on as it is: its limit and its verdict's number stand for the answer
by_number : (level book limit : ℕ) (verdict : Verdict) → entry_from level book limit (verdict_number verdict) ≡ judged_by level book limit verdict
unfolding entry_from verdict_number
by_number level book limit Below = refl
by_number level book limit Inconclusive = refl
by_number level book limit Above = refl

pub handed_on : (level book : ℕ) (answer : Result Judgement Refusal) → entry_from level book (judge_seen (says answer)).upper_limit (judge_seen (says answer)).verdict ≡ entry_of level book answer
unfolding entry_from entry_of
handed_on level book (Ok j) = by_number level book j.upper_limit j.verdict
handed_on level book (Err why) = refl
