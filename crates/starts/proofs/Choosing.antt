-- The starts of the strata, as the loop from stratum to stratum meets them. Assumes nothing.
use mathlib.Core.Path.{◌≡◌, refl, sym, ap, subst, ◌∙◌}
use Rattle.std.specs.Prelude.{Ok, Err}
use mathlib.Core.List.{List, [], ◌∷◌, ◌++◌, map, append-nil}
use Prim.Native.Nat.{ℕ, ◌+◌, ◌-◌, ◌≤◌, ◌<◌}
use native.Mathlib.Numerals.{add-one}
use native.Mathlib.Omega.{arith}
use lib.ListN.{length, get_or, take, drop, set, replicate, length-drop, drop_of_length-le, length-map}
use lib.Seq.{drop-cons, append_snoc, take_all, length-take-le}
use Rattle.terms.specs.declared.Refusal.{Refusal}
use Rattle.terms.specs.Outcome.{Outcome, accepted, refused, refused_by, after}
use Rattle.terms.specs.Limits.{most_strata}
use Rattle.terms.specs.Numbers.{pad_to}
use Rattle.terms.proofs.Filling.{Coming, coming_none, coming_next, coming_end}
use Rattle.start.specs.declared.Chosen.{Chosen}
use Rattle.start.specs.Start.{start_of}
use Rattle.start.proofs.Laws.{words_within}
use Rattle.strata.specs.declared.Row.{Row}
use Rattle.strata.specs.Strata.{no_row}
use Rattle.starts.specs.Starts.{lent_in, chosen_from, starts_of, starts_in, words_in, starts_with, StartsPromise}

-- an array with one entry more
grown : {A : Type 0} {m : ℕ} {none : A} {whole out : List A} {h : ℕ} → Coming m none whole [] out h → h < m → (x : A) → Coming m none (whole ++ (x ∷ [])) [] (set out h x) (h + 1)
grown {A} {m} {none} {whole} {out} {h} at room x =
    coming_next (record { long = at.long; written = ap (λ (l : List A). l ++ (x ∷ [])) (sym (append-nil (take h out)) ∙ at.written); past = at.past }) x [] room refl

-- one more of a list that is read entry by entry
read_more : {A B : Type 0} (f : A → B) (l : List A) (x : A) → map f (l ++ (x ∷ [])) ≡ map f l ++ (f x ∷ [])
read_more f [] x = refl
read_more f (y ∷ l) x = ap (λ (k : List _). f y ∷ k) (read_more f l x)

after_same : {A : Type 0} (o : Outcome (List A)) → after (λ l. accepted l) o ≡ o
after_same (accepted l) = refl
after_same (refused number place) = refl

after_more : {A : Type 0} (l : List A) (x : A) (o : Outcome (List A)) →
    after (λ others. accepted (l ++ others)) (after (λ others. accepted (x ∷ others)) o) ≡ after (λ others. accepted ((l ++ (x ∷ [])) ++ others)) o
after_more l x (accepted k) = ap accepted (sym (append_snoc l x k))
after_more l x (refused number place) = refl

-- the definition, as the loop meets it
chosen_on : (read : ℕ) (words : List ℕ) (rows : List Row) (h : ℕ) → h < length rows →
    chosen_from read words (drop h rows)
    ≡ after (λ chosen. after (λ others. accepted (chosen ∷ others)) (chosen_from (read + chosen.words) words (drop (h + 1) rows)))
    (lent_in (length words) (start_of (get_or rows h no_row).figures.interval (drop read words)))
unfolding chosen_from
chosen_on read words rows h inside = rw (drop-cons rows h no_row inside, add-one)

chosen_past : (read : ℕ) (words : List ℕ) (rows : List Row) (h : ℕ) → length rows ≤ h → chosen_from read words (drop h rows) ≡ accepted []
unfolding chosen_from
chosen_past read words rows h end = rw (drop_of_length-le rows end)

-- the strata before h have their starts, and the whole follows from them and the strata to come
pub record Choosing (rows : List Row) (words starts used : List ℕ) (read h : ℕ) : Type 0 where
  pub few : length rows ≤ most_strata
  pub within : h ≤ length rows
  pub among : read ≤ length words
  pub done : List Chosen
  pub starts_filled : Coming most_strata 0 (starts_in done) [] starts h
  pub words_filled : Coming most_strata 0 (words_in done) [] used h
  pub rest : after (λ others. accepted (done ++ others)) (chosen_from read words (drop h rows)) ≡ starts_of rows words

pub choosing_none : {rows : List Row} {words : List ℕ} → length rows ≤ most_strata → Choosing rows words (replicate 32 0) (replicate 32 0) 0 0
unfolding starts_of
choosing_none {rows} {words} few =
    record {
      few = few;
      within = omega arith;
      among = omega arith;
      done = [];
      starts_filled = coming_none;
      words_filled = coming_none;
      rest = after_same (chosen_from 0 words rows);
    }

-- the words after those read, as code lends them
pub to_the_end : (read : ℕ) (words : List ℕ) → take (length words - read) (drop read words) ≡ drop read words
to_the_end read words = take_all (length words - read) (drop read words) (omega (arith, length-drop read words))

module _ {rows : List Row} {words starts used : List ℕ} {read h : ℕ} (so_far : Choosing rows words starts used read h) where
  module _ (inside : h < length rows) where
    module _ {o : Outcome Chosen} (p : o ≡ start_of (get_or rows h no_row).figures.interval (take (length words - read) (drop read words))) where
      abbrev later : Chosen → Outcome (List Chosen)
      later chosen = chosen_from (read + chosen.words) words (drop (h + 1) rows)

      said : o ≡ start_of (get_or rows h no_row).figures.interval (drop read words)
      said = p ∙ ap (start_of (get_or rows h no_row).figures.interval) (to_the_end read words)

      own_step : chosen_from read words (drop h rows) ≡ after (λ chosen. after (λ others. accepted (chosen ∷ others)) (later chosen)) (lent_in (length words) o)
      own_step =
          chosen_on read words rows h inside
          ∙ ap (λ (a : Outcome Chosen). after (λ chosen. after (λ others. accepted (chosen ∷ others)) (later chosen)) (lent_in (length words) a)) (sym said)

    pub choosing_refused : (why : Refusal) → refused_by why ≡ start_of (get_or rows h no_row).figures.interval (take (length words - read) (drop read words)) →
        StartsPromise (starts_of rows words) (Err (Refusal.NoWordPasses (length words)))
    choosing_refused why p =
        ap (after (λ all. accepted (starts_with all))) (sym (ap (after (λ others. accepted (so_far.done ++ others))) (own_step p)) ∙ so_far.rest)

    module _ {chosen : Chosen} (p : accepted chosen ≡ start_of (get_or rows h no_row).figures.interval (take (length words - read) (drop read words))) where
      pub read_within : read + chosen.words ≤ length words
      read_within =
          let a = so_far.among in
          omega (arith, words_within (get_or rows h no_row).figures.interval (drop read words) chosen (sym (said p)), length-drop read words)

      pub choosing_next : Choosing rows words (set starts h chosen.start) (set used h chosen.words) (read + chosen.words) (h + 1)
      choosing_next =
          let f = so_far.few in
          let more : Outcome (List Chosen) = chosen_from (read + chosen.words) words (drop (h + 1) rows) in
          record {
            few = so_far.few;
            within = omega arith;
            among = read_within;
            done = so_far.done ++ (chosen ∷ []);
            starts_filled = subst (λ (l : List ℕ). Coming most_strata 0 l [] (set starts h chosen.start) (h + 1))
                (sym (read_more (λ (c : Chosen). c.start) so_far.done chosen)) (grown so_far.starts_filled (omega arith) chosen.start);
            words_filled = subst (λ (l : List ℕ). Coming most_strata 0 l [] (set used h chosen.words) (h + 1))
                (sym (read_more (λ (c : Chosen). c.words) so_far.done chosen)) (grown so_far.words_filled (omega arith) chosen.words);
            rest = sym (after_more so_far.done chosen more) ∙ sym (ap (after (λ others. accepted (so_far.done ++ others))) (own_step p)) ∙ so_far.rest;
          }

  pub choosing_end : length rows ≤ h → StartsPromise (starts_of rows words) (Ok (record { strata = length rows; starts = starts; words = used }))
  choosing_end end =
      let f = so_far.few in
      let w = so_far.within in
      let past : chosen_from read words (drop h rows) ≡ accepted [] = chosen_past read words rows h end in
      let whole : accepted so_far.done ≡ starts_of rows words =
      ap accepted (sym (append-nil so_far.done)) ∙ sym (ap (after (λ others. accepted (so_far.done ++ others))) past) ∙ so_far.rest in
      let starts-all = sym (append-nil (take h starts)) ∙ so_far.starts_filled.written in
      let l = so_far.starts_filled.long in
      let many : length rows ≡ length so_far.done =
      omega (arith, length-map so_far.done (λ (c : Chosen). c.start), ap length starts-all, length-take-le h starts (omega arith)) in
      let first : starts ≡ pad_to most_strata 0 (starts_in so_far.done) = coming_end so_far.starts_filled (omega arith) refl in
      let second : used ≡ pad_to most_strata 0 (words_in so_far.done) = coming_end so_far.words_filled (omega arith) refl in
      (λ i. accepted (record { strata = many i; starts = first i; words = second i })) ∙ ap (after (λ all. accepted (starts_with all))) whole
