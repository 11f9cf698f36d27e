-- The tally after any list of entries: every figure is what the entries added give, and each answer follows from them alone. Assumes nothing.
use Rattle.std.specs.Prelude.{Result, Ok, Err, Some, None}
use Rattle.terms.specs.declared.Refusal.{Refusal}
use mathlib.Core.Path.{◌≡◌, refl, sym, ap, ◌∙◌, subst}
use mathlib.Core.Bool.{Bool, true, false}
use mathlib.Core.List.{List, [], ◌∷◌, map}
use mathlib.Core.Logic.{⊎_elim}
use Prim.Native.Nat.{ℕ, ◌+◌, ◌≤◌, ◌<◌}
use native.Mathlib.Omega.{arith}
use borrow.Author.Tests.{eqb-false, le-leb, lt-leb, leb-false, le-ltb}
use lib.Dec.{eqb, ltb, leb}
use lib.ListN.{length, get_or}
use Rattle.terms.specs.Limits.{most_judgements}
use Rattle.terms.specs.Numbers.{pick, sum}
use Rattle.terms.specs.Outcome.{Outcome, accepted, refused, after, left, says}
use Rattle.terms.proofs.Outcomes.{never, refused_once, Gives, gives_after, gives_among}
use Rattle.terms.proofs.Tests.{by_test, le_or_lt}
use Rattle.factors.specs.declared.Level.{Level}
use Rattle.factors.specs.Levels.{level_of}
use Rattle.factors.proofs.Percents.{level_gives}
use Rattle.season.specs.declared.{Judged.Judged, Tally.Tally, HandedBack.HandedBack}
use Rattle.season.specs.Tally.{Entry, most_sum, cell_of, passes_of, no_tally}
use Rattle.season.specs.Add.{add_says, AddPromise, passes, settled_of, at_level, judged_of, full, entered, add_of}
use Rattle.season.specs.Figures.{in_cell, is_refused, count_of, limit_of, Tells, more, sum_passes, admitted_at, admitted_in, admitted, Alike, added_from, tally_from, added_of, tally_of}
use Rattle.season.proofs.Cells.{level_at, verdict_at, every_cell}
use Rattle.season.proofs.Lists.{count_le}
use Rattle.season.proofs.Growth.{tells_nothing, tells_judged, tells_apart}

-- a tally that is handed back beside a refusal is the one that was handed in
pub unchanged_by : {t : Tally} {o : Outcome Tally} {r : HandedBack} {number place : ℕ} → AddPromise t o r → o ≡ refused number place → r.tally ≡ t
unchanged_by {t} m e = m.tally_left ∙ ap (left (λ u. u) t) e

-- an outcome is handed back in one way
one_said : (t u : Tally) (a b : Result Unit Refusal) → after (λ done. accepted t) (says a) ≡ after (λ done. accepted u) (says b) → a ≡ b
one_said t u (Ok a) (Ok b) e = refl
one_said t u (Ok a) (Err why) e = never (sym e)
one_said t u (Err why) (Ok b) e = never e
one_said t u (Err x) (Err y) e = ap Err (refused_once x y e)

pub add_once : {t : Tally} {o : Outcome Tally} {r s : HandedBack} → AddPromise t o r → AddPromise t o s → r ≡ s
add_once {r = r} {s = s} p q =
    λ i. record { answer = one_said r.tally s.tally r.answer s.answer (p.answer ∙ sym q.answer) i; tally = (p.tally_left ∙ sym q.tally_left) i }

-- a list and a tally that are refused by the same test, and else answer alike
either : (n : ℕ) (b c : Bool) (x : Outcome (List Entry)) (y : Outcome Tally) → b ≡ c → (b ≡ false → Alike x y) → Alike (pick b (refused n 0) x) (pick c (refused n 0) y)
either n true true x y e h = (refl, refl)
either n false false x y e h = h refl
either n true false x y e h = let z : ◌≡◌ {A = ℕ} 0 1 = cc in absurd (omega arith)
either n false true x y e h = let z : ◌≡◌ {A = ℕ} 0 1 = cc in absurd (omega arith)

by_level : (o : Outcome Level) (f : Level → Outcome (List Entry)) (g : Level → Outcome Tally) → ((level : Level) → o ≡ accepted level → Alike (f level) (g level)) → Alike (after f o) (after g o)
by_level (accepted level) f g h = h level refl
by_level (refused number place) f g h = (refl, refl)

no_more : (b : Bool) → pick b true false ≡ b
no_more true = refl
no_more false = refl

-- a list that takes an entry has it last
admits_at : (l : List Entry) (j : Judged) (o : Outcome Level) (m : List Entry) → after (admitted_at l j) o ≡ accepted m → m ≡ more l (Some j)
admits_at l j (accepted level) m is =
    by_test (λ x. x ≡ accepted m → m ≡ more l (Some j)) (eqb j.book 0) (λ z e. never e)
    (λ z. by_test (λ x. x ≡ accepted m → m ≡ more l (Some j)) (sum_passes l j) (λ p e. never e) (λ p e. let same : more l (Some j) ≡ m = cc in sym same)) is
admits_at l j (refused n p) m e = never e

admits_in : (l : List Entry) (e : Entry) (m : List Entry) → admitted_in l e ≡ accepted m → m ≡ more l e
admits_in l (Some j) m is = admits_at l j (level_of j.level) m is
admits_in l None m is = let same : more l None ≡ m = cc in sym same

pub admits : (l : List Entry) (e : Entry) (m : List Entry) → admitted l e ≡ accepted m → m ≡ more l e
unfolding admitted
admits l e m = by_test (λ x. x ≡ accepted m → m ≡ more l e) (leb most_judgements (length l)) (λ t is. never is) (λ t is. admits_in l e m is)

-- of a tally that tells a list no count passes 64 bits, and the refused ones are at most the added: so what is answered is what the list says
module _ {l : List Entry} {t : Tally} (told : Tells l t) where
  full_is : leb most_judgements (length l) ≡ full t
  full_is =
      ⊎_elim
      (λ (h : most_judgements ≤ length l). let e = told.added in simp (le-leb most_judgements t.added (omega arith), le-leb most_judgements (length l) h))
      (λ (h : length l < most_judgements).
      let e = told.added in
      simp (lt-leb most_judgements t.added (omega arith), lt-leb most_judgements t.refused (omega (arith, told.refused, count_le is_refused l)), lt-leb most_judgements (length l) h))
      (le_or_lt most_judgements (length l))

  passes_is : length l < most_judgements → (j : Judged) (level : Level) → sum_passes l j ≡ passes t (cell_of level j.verdict) j
  unfolding passes_of
  passes_is few j level =
      let small : get_or t.counts (cell_of level j.verdict) 0 + 1 ≤ most_sum = omega (arith, told.counts level j.verdict, count_le (in_cell level j.verdict) l) in
      simp (le-ltb most_sum (get_or t.counts (cell_of level j.verdict) 0 + 1) small, told.books, told.limits, no_more (ltb most_sum (sum (map limit_of l) + j.limit)))

  alike_level : length l < most_judgements → (j : Judged) (level : Level) → level_of j.level ≡ accepted level → Alike (admitted_at l j level) (at_level t j level)
  unfolding at_level settled_of
  alike_level few j level known =
      either 5 (eqb j.book 0) (eqb j.book 0) _ _ refl
      (λ z. either 28 (sum_passes l j) (passes t (cell_of level j.verdict) j) _ _ (passes_is few j level) (λ p. tells_judged told j level known (eqb-false j.book 0 z)))

  alike_in : (e : Entry) → length l < most_judgements → Alike (admitted_in l e) (entered t e)
  unfolding judged_of
  alike_in (Some j) few = by_level (level_of j.level) (admitted_at l j) (at_level t j) (λ level known. alike_level few j level known)
  alike_in None few = tells_apart told

  -- the list with one more and the tally with one more: refused alike, or the tally tells the list
  pub alike : (e : Entry) → Alike (admitted l e) (add_of t e)
  unfolding admitted add_of
  alike e = either 27 (leb most_judgements (length l)) (full t) (admitted_in l e) (entered t e) full_is (λ h. alike_in e (leb-false most_judgements (length l) h))

-- so an entry that is added is the list's last
alike_accepted : (l : List Entry) (e : Entry) (o : Outcome (List Entry)) {u : Tally} → admitted l e ≡ o → Alike o (accepted u) → Tells (more l e) u
alike_accepted l e (accepted m) {u} is a = subst (λ (k : List Entry). Tells k u) (admits l e m is) a
alike_accepted l e (refused n p) is a = absurd a

pub added_tells : {l : List Entry} {t u : Tally} → Tells l t → (e : Entry) → add_of t e ≡ accepted u → Tells (more l e) u
added_tells {l} told e is = alike_accepted l e (admitted l e) refl (subst (λ (o : Outcome Tally). Alike (admitted l e) o) is (alike told e))

-- where they answer alike, what is left of the list and of the tally agree again
left_alike : {l : List Entry} {t : Tally} (o : Outcome (List Entry)) (q : Outcome Tally) → Tells l t → Alike o q → Tells (left (λ m. m) l o) (left (λ u. u) t q)
left_alike (accepted m) (accepted u) told a = a
left_alike (refused n p) (refused m q) told a = told
left_alike (accepted m) (refused n p) told a = absurd a
left_alike (refused n p) (accepted u) told a = absurd a

pub follow : (es : List Entry) (l : List Entry) (t : Tally) → Tells l t → Tells (added_from l es) (tally_from t es)
unfolding added_from tally_from
follow [] l t told = told
follow (e ∷ es) l t told = follow es (left (λ m. m) l (admitted l e)) (left (λ u. u) t (add_of t e)) (left_alike (admitted l e) (add_of t e) told (alike told e))

-- every figure of the tally equals what the list of the judgements added gives
pub season_tells : (offered : List Entry) → Tells (added_of offered) (tally_of offered)
unfolding added_of tally_of
season_tells offered = follow offered [] no_tally tells_nothing

-- the counts place by place: three for each level, in the order of the levels
pub every_count : {l : List Entry} {t : Tally} → Tells l t → (at : ℕ) → at < 27 → get_or t.counts at 0 ≡ count_of (in_cell (level_at at) (verdict_at at)) l
every_count {l} {t} told at h = ap (λ (k : ℕ). get_or t.counts k 0) (sym (every_cell at h)) ∙ told.counts (level_at at) (verdict_at at)

-- one entry more, as `add` hands it back
tally_more : (es : List Entry) (t : Tally) (e : Entry) → tally_from t (more es e) ≡ left (λ u. u) (tally_from t es) (add_of (tally_from t es) e)
unfolding tally_from
tally_more [] t e = refl
tally_more (x ∷ es) t e = tally_more es (left (λ u. u) t (add_of t x)) e

-- what one call of `add` gives, where the tally was made by adding the entries offered before
pub record One (offered : List Entry) (e : Entry) (r : HandedBack) : Type 0 where
  pub tally : r.tally ≡ tally_of (more offered e)
  pub said : Alike (admitted (added_of offered) e) (add_says r)
  pub tells : Tells (added_of (more offered e)) r.tally

pub one_added : (offered : List Entry) (t : Tally) (e : Entry) (r : HandedBack) → t ≡ tally_of offered → AddPromise t (add_of t e) r → One offered e r
unfolding tally_of
one_added offered t e r same m =
    let made : r.tally ≡ tally_of (more offered e) = m.tally_left ∙ ap (λ (u : Tally). left (λ v. v) u (add_of u e)) same ∙ sym (tally_more offered no_tally e) in
    let answer : add_says r ≡ add_of (tally_of offered) e = m.answer ∙ ap (λ (u : Tally). add_of u e) same in
    record {
      tally = made;
      said = subst (λ (o : Outcome Tally). Alike (admitted (added_of offered) e) o) (sym answer) (alike (season_tells offered) e);
      tells = subst (λ (u : Tally). Tells (added_of (more offered e)) u) (sym made) (season_tells (more offered e));
    }

-- `none` is where a season begins
pub begun : no_tally ≡ tally_of []
unfolding tally_of tally_from
begun = refl

-- the refusals that `add` gives, and those that one that was refused meets
abbrev pub add_numbers : List ℕ
add_numbers = 27 ∷ 1 ∷ 5 ∷ 28 ∷ []

judged_gives : (t : Tally) (j : Judged) → Gives add_numbers (judged_of t j)
unfolding judged_of at_level settled_of
judged_gives t j =
    gives_after add_numbers (at_level t j) (level_of j.level) (gives_among (1 ∷ []) add_numbers tt (level_of j.level) (level_gives j.level))
    (λ level. by_test (Gives add_numbers) (eqb j.book 0) (λ z. tt) (λ z. by_test (Gives add_numbers) (passes t (cell_of level j.verdict) j) (λ p. tt) (λ p. tt)))

pub add_gives : (t : Tally) (e : Entry) → Gives add_numbers (add_of t e)
unfolding add_of
add_gives t (Some j) = by_test (Gives add_numbers) (full t) (λ f. tt) (λ f. judged_gives t j)
add_gives t None = by_test (Gives add_numbers) (full t) (λ f. tt) (λ f. tt)

pub not_judged_gives : (t : Tally) → Gives (27 ∷ []) (add_of t None)
unfolding add_of
not_judged_gives t = by_test (Gives (27 ∷ [])) (full t) (λ f. tt) (λ f. tt)
