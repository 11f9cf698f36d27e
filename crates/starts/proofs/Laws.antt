-- What holds of the starts chosen: one for each stratum, each fits its interval, the words read are among those lent, and 12 is the one refusal. Assumes nothing.
use mathlib.Core.Path.{◌≡◌, sym, ap, subst, ◌∙◌}
use mathlib.Core.Bool.{true}
use mathlib.Core.List.{List, [], ◌∷◌}
use Prim.Native.Nat.{ℕ, zero, suc, ◌+◌, ◌≤◌}
use native.Mathlib.Omega.{arith}
use borrow.Author.Tests.{eq-eqb, ne_eqb, lt-ltb}
use lib.ListN.{length, drop, length-drop}
use Rattle.terms.specs.Outcome.{Outcome, accepted, refused, after}
use Rattle.terms.specs.Numbers.{sum}
use Rattle.terms.specs.Limits.{most_interval}
use Rattle.terms.proofs.Outcomes.{never, after_accepted, Gives, gives_after}
use Rattle.split.specs.Start.{start_fits}
use Rattle.start.specs.declared.Chosen.{Chosen}
use Rattle.start.specs.Start.{start_of}
use Rattle.start.proofs.Laws.{within, no_interval, words_within, within_gives}
use Rattle.strata.specs.declared.Row.{Row}
use Rattle.strata.specs.Starts.{starts_from}
use Rattle.starts.specs.Starts.{lent_in, chosen_from, starts_of, starts_in, words_in}

-- a stratum's start and those after it, where all are accepted
pub record Step (read : ℕ) (words : List ℕ) (row : Row) (later : List Row) (all : List Chosen) : Type 0 where
  pub chosen : Chosen
  pub others : List Chosen
  pub whole : chosen ∷ others ≡ all
  pub own : start_of row.figures.interval (drop read words) ≡ accepted chosen
  pub rest : chosen_from (read + chosen.words) words later ≡ accepted others

lent_accepted : (lent : ℕ) (o : Outcome Chosen) (chosen : Chosen) → lent_in lent o ≡ accepted chosen → o ≡ accepted chosen
lent_accepted lent (accepted c) chosen e = e
lent_accepted lent (refused n p) chosen e = never e

pub step : (read : ℕ) (words : List ℕ) (row : Row) (later : List Row) (all : List Chosen) → chosen_from read words (row ∷ later) ≡ accepted all → Step read words row later all
unfolding chosen_from
step read words row later all e =
    let a = after_accepted (λ (chosen : Chosen). after (λ others. accepted (chosen ∷ others)) (chosen_from (read + chosen.words) words later))
    (lent_in (length words) (start_of row.figures.interval (drop read words))) all e in
    let b = after_accepted (λ (others : List Chosen). accepted (a.0 ∷ others)) (chosen_from (read + a.0.words) words later) all a.2 in
    let whole : a.0 ∷ b.0 ≡ all = let w = b.2 in cc in
    record { chosen = a.0; others = b.0; whole = whole; own = lent_accepted (length words) _ a.0 a.1; rest = b.1 }

none_chosen : (read : ℕ) (words : List ℕ) (all : List Chosen) → chosen_from read words [] ≡ accepted all → [] ≡ all
unfolding chosen_from
none_chosen read words all e = cc

-- one for each stratum
many_from : (read : ℕ) (words : List ℕ) (rows : List Row) (all : List Chosen) → chosen_from read words rows ≡ accepted all → length all ≡ length rows
many_from read words [] all e = sym (ap length (none_chosen read words all e))
many_from read words (row ∷ rows) all e =
    let s = step read words row rows all e in
    sym (ap length s.whole) ∙ ap suc (many_from (read + s.chosen.words) words rows s.others s.rest)

pub starts_many : (rows : List Row) (words : List ℕ) (all : List Chosen) → starts_of rows words ≡ accepted all → length all ≡ length rows
unfolding starts_of
starts_many rows words all e = many_from 0 words rows all e

-- the words that the strata read, one after the other, are among those lent
read_from : (read : ℕ) (words : List ℕ) (rows : List Row) (all : List Chosen) → read ≤ length words → chosen_from read words rows ≡ accepted all → read + sum (words_in all) ≤ length words
read_from read words [] all h e = omega (arith, ap (λ (l : List Chosen). sum (words_in l)) (none_chosen read words all e))
read_from read words (row ∷ rows) all h e =
    let s = step read words row rows all e in
    let own = words_within row.figures.interval (drop read words) s.chosen s.own in
    let among : read + s.chosen.words ≤ length words = omega (arith, own, length-drop read words) in
    omega (arith, read_from (read + s.chosen.words) words rows s.others among s.rest, ap (λ (l : List Chosen). sum (words_in l)) s.whole)

pub words_lent : (rows : List Row) (words : List ℕ) (all : List Chosen) → starts_of rows words ≡ accepted all → sum (words_in all) ≤ length words
unfolding starts_of
words_lent rows words all e = omega (arith, read_from 0 words rows all (omega arith) e)

-- a start of the random start operation fits its interval
own_fits : (J : ℕ) (l : List ℕ) (chosen : Chosen) → start_of J l ≡ accepted chosen → start_fits chosen.start J ≡ true
own_fits zero l chosen e = eq-eqb chosen.start 0 (no_interval l chosen e)
own_fits (suc j) l chosen e =
    let some : suc j ≡ 0 → ⊥ = λ z. omega arith in
    rw (ne_eqb (suc j) 0 some) (lt-ltb chosen.start (suc j) (within (suc j) l chosen (omega arith) e))

-- so the draw and the projection by strata never refuse them by 11
fit_from : (read : ℕ) (words : List ℕ) (rows : List Row) (all : List Chosen) → chosen_from read words rows ≡ accepted all → (h : ℕ) → starts_from h rows (starts_in all) ≡ accepted (h + length all)
unfolding starts_from
fit_from read words [] all e h =
    let none = none_chosen read words all e in
    let here : h ≡ h + 0 = omega arith in
    subst (λ (l : List Chosen). starts_from h [] (starts_in l) ≡ accepted (h + length l)) none (ap accepted here)
fit_from read words (row ∷ rows) all e h =
    let s = step read words row rows all e in
    let later : starts_from (suc h) rows (starts_in s.others) ≡ accepted (suc h + length s.others) = fit_from (read + s.chosen.words) words rows s.others s.rest (suc h) in
    let on : suc h + length s.others ≡ h + suc (length s.others) = omega arith in
    subst (λ (l : List Chosen). starts_from h (row ∷ rows) (starts_in l) ≡ accepted (h + length l)) s.whole
    (rw (own_fits row.figures.interval (drop read words) s.chosen s.own) (later ∙ ap accepted on))

pub starts_fit : (rows : List Row) (words : List ℕ) (all : List Chosen) → starts_of rows words ≡ accepted all → starts_from 0 rows (starts_in all) ≡ accepted (length all)
unfolding starts_of
starts_fit rows words all e = let none : 0 + length all ≡ length all = omega arith in fit_from 0 words rows all e 0 ∙ ap accepted none

gives_from : (read : ℕ) (words : List ℕ) (rows : List Row) → Gives (12 ∷ []) (chosen_from read words rows)
unfolding chosen_from
gives_from read words [] = tt
gives_from read words (row ∷ rows) =
    gives_after (12 ∷ []) _ (lent_in (length words) (start_of row.figures.interval (drop read words))) (lent_gives (start_of row.figures.interval (drop read words)))
    (λ (chosen : Chosen). gives_after (12 ∷ []) _ (chosen_from (read + chosen.words) words rows) (gives_from (read + chosen.words) words rows) (λ others. tt))
  where
    lent_gives : (o : Outcome Chosen) → Gives (12 ∷ []) (lent_in (length words) o)
    lent_gives (accepted chosen) = tt
    lent_gives (refused n p) = tt

pub starts_give : (rows : List Row) (words : List ℕ) → Gives (12 ∷ []) (starts_of rows words)
unfolding starts_of
starts_give rows words = gives_from 0 words rows

place_from : (read : ℕ) (words : List ℕ) (rows : List Row) (n p : ℕ) → chosen_from read words rows ≡ refused n p → p ≡ length words
unfolding chosen_from
place_from read words [] n p e = never (sym e)
place_from read words (row ∷ rows) n p e = go (start_of row.figures.interval (drop read words)) (λ chosen. place_from (read + chosen.words) words rows n p) e
  where
    more : (chosen : Chosen) (o : Outcome (List Chosen)) → (o ≡ refused n p → p ≡ length words) → after (λ others. accepted (chosen ∷ others)) o ≡ refused n p → p ≡ length words
    more chosen (accepted others) known f = never (sym f)
    more chosen (refused m q) known f = known (let same : ◌≡◌ {A = Outcome (List Chosen)} (refused m q) (refused n p) = cc in same)

    go : (o : Outcome Chosen) → ((chosen : Chosen) → chosen_from (read + chosen.words) words rows ≡ refused n p → p ≡ length words) →
        after (λ (chosen : Chosen). after (λ others. accepted (chosen ∷ others)) (chosen_from (read + chosen.words) words rows)) (lent_in (length words) o) ≡ refused n p → p ≡ length words
    go (accepted chosen) known f = more chosen (chosen_from (read + chosen.words) words rows) (known chosen) f
    go (refused m q) known f = let same : length words ≡ p = cc in sym same

-- its place is the number of words lent, whichever stratum they run out at
pub words_place : (rows : List Row) (words : List ℕ) (n p : ℕ) → starts_of rows words ≡ refused n p → p ≡ length words
unfolding starts_of
words_place rows words n p e = place_from 0 words rows n p e

-- the random start operation itself refuses an interval of a plan by 12 alone, and only where no word that is left passes
pub twelve_alone : (J : ℕ) (left : List ℕ) → J ≤ most_interval → Gives (12 ∷ []) (start_of J left)
twelve_alone J left most = within_gives J left most
