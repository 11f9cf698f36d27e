-- A tally that tells a list tells the longer list once an entry is added. Assumes nothing.
use Rattle.std.specs.Prelude.{Some, None}
use mathlib.Core.Path.{◌≡◌, refl, sym, ap, ◌∙◌, subst}
use mathlib.Core.Bool.{Bool, true, false}
use mathlib.Core.List.{List, []}
use mathlib.Core.Logic.{◌⊎◌, inl, inr, ⊎_elim}
use Prim.Native.Nat.{ℕ, ◌+◌, ◌<◌}
use native.Mathlib.Omega.{arith}
use borrow.Author.Tests.{eqb-true, eqb-false, eq-eqb, ne_eqb}
use lib.Dec.{eqb}
use lib.ListN.{length, get_or, set, length-set, length-replicate, get_or-replicate}
use lib.Seq.{get_or-set_same, get_or-set_other}
use Rattle.terms.specs.Numbers.{pick}
use Rattle.terms.specs.Outcome.{accepted}
use Rattle.terms.proofs.Tests.{by_test}
use Rattle.factors.specs.declared.Level.{Level}
use Rattle.factors.specs.Levels.{percent_of, row_of, level_of}
use Rattle.factors.proofs.Percents.{percents, percent_at, named, named_only}
use Rattle.judge.specs.declared.Verdict.{Verdict}
use Rattle.season.specs.declared.Judged.{Judged}
use Rattle.season.specs.declared.Tally.{Tally}
use Rattle.season.specs.Tally.{Entry, column_of, cell_of, leads_of, no_tally, with_judged, with_not_judged}
use Rattle.season.specs.Figures.{in_cell, is_refused, book_of, limit_of, At, Tells, more}
use Rattle.season.proofs.Cells.{cell_lt, cell_row, cell_column}
use Rattle.season.proofs.Lists.{length_more, count_more, sum_more, at_more, never_judged}
use Rattle.season.proofs.Worst.{worst_apart, worst_more}

-- a judgement is in the cell of its level and verdict, and in no other
module _ (j : Judged) (level : Level) (known : level_of j.level ≡ accepted level) (m : Level) (w : Verdict) where
  in_its_cell : cell_of m w ≡ cell_of level j.verdict → in_cell m w (Some j) ≡ true
  in_its_cell e =
      let percent : j.level ≡ percent_of m =
      sym (named_only j.level level known) ∙ sym (percent_at level) ∙ ap (λ (r : ℕ). get_or percents r 0) (sym (cell_row m level w j.verdict e)) ∙ percent_at m in
      simp (eq-eqb j.level (percent_of m) percent, eq-eqb (column_of j.verdict) (column_of w) (sym (cell_column m level w j.verdict e)))

  in_no_other : (cell_of m w ≡ cell_of level j.verdict → ⊥) → in_cell m w (Some j) ≡ false
  unfolding cell_of
  in_no_other d =
      by_test (λ b. b ≡ false) (eqb j.level (percent_of m))
      (λ t.
      let same : accepted level ≡ accepted m = sym known ∙ ap level_of (eqb-true j.level (percent_of m) t) ∙ named m in
      let one : level ≡ m = cc in
      ne_eqb (column_of j.verdict) (column_of w) (λ c. d (let r = ap row_of one in omega arith)))
      (λ t. refl)

-- one more at a place of a list of counts
same_or_not : (a b : ℕ) (test : Bool) → eqb a b ≡ test → (a ≡ b) ⊎ (a ≡ b → ⊥)
same_or_not a b true e = inl (eqb-true a b e)
same_or_not a b false e = inr (eqb-false a b e)

one_more : (counts : List ℕ) (at here : ℕ) (hit : Bool) → at < length counts → (here ≡ at → hit ≡ true) → ((here ≡ at → ⊥) → hit ≡ false) →
    get_or (set counts at (get_or counts at 0 + 1)) here 0 ≡ get_or counts here 0 + pick hit 1 0
one_more counts at here hit inside hits misses =
    ⊎_elim
    (λ (e : here ≡ at). rw (hits e, e) (get_or-set_same counts at (get_or counts at 0 + 1) 0 inside))
    (λ (d : here ≡ at → ⊥). rw (misses d) (get_or-set_other counts at here (get_or counts at 0 + 1) 0 d ∙ omega arith))
    (same_or_not here at (eqb here at) refl)

-- a tally that tells nothing
pub tells_nothing : Tells [] no_tally
unfolding no_tally
tells_nothing =
    record {
      cells = length-replicate {A = ℕ} 27 0;
      counts = λ level verdict. get_or-replicate {A = ℕ} 27 (cell_of level verdict) 0 0 (cell_lt level verdict);
      books = refl;
      limits = refl;
      refused = refl;
      added = refl;
      worst = inl (record { none = λ k i h. never_judged h; place_zero = refl; limit_zero = refl; book_zero = refl });
      a_book = λ k i h. never_judged h;
    }

module _ {l : List Entry} {t : Tally} (told : Tells l t) where
  -- a judgement at a known level, with a book
  pub tells_judged : (j : Judged) (level : Level) → level_of j.level ≡ accepted level → (j.book ≡ 0 → ⊥) → Tells (more l (Some j)) (with_judged t (cell_of level j.verdict) j)
  unfolding with_judged
  tells_judged j level known some =
      let at : ℕ = cell_of level j.verdict in
      let inside : at < length t.counts = omega (arith, told.cells, cell_lt level j.verdict) in
      let books : 0 < j.book = omega arith in
      record {
        cells = length-set t.counts at (get_or t.counts at 0 + 1) ∙ told.cells;
        counts = λ m w.
            one_more t.counts at (cell_of m w) (in_cell m w (Some j)) inside (in_its_cell j level known m w) (in_no_other j level known m w) ∙
            ap (λ (n : ℕ). n + pick (in_cell m w (Some j)) 1 0) (told.counts m w) ∙ sym (count_more (in_cell m w) l (Some j));
        books = omega (arith, told.books, sum_more book_of l (Some j));
        limits = omega (arith, told.limits, sum_more limit_of l (Some j));
        refused = omega (arith, told.refused, count_more is_refused l (Some j));
        added = omega (arith, told.added, length_more l (Some j));
        worst = worst_more l t.worst t.worst_limit t.worst_book j told.a_book books t.added told.added (leads_of j.limit j.book t.worst_limit t.worst_book) refl told.worst;
        a_book = λ k i h. ⊎_elim (λ (g : At l k i). told.a_book k i g) (λ g. let same : j ≡ i = cc in subst (λ (x : Judged). 0 < x.book) same books) (at_more l (Some j) k i h);
      }

  -- one that was refused
  pub tells_apart : Tells (more l None) (with_not_judged t)
  unfolding with_not_judged
  tells_apart =
      record {
        cells = told.cells;
        counts = λ m w. omega (arith, told.counts m w, count_more (in_cell m w) l None);
        books = omega (arith, told.books, sum_more book_of l None);
        limits = omega (arith, told.limits, sum_more limit_of l None);
        refused = omega (arith, told.refused, count_more is_refused l None);
        added = omega (arith, told.added, length_more l None);
        worst = worst_apart l _ _ _ told.worst;
        a_book = λ k i h. ⊎_elim (λ (g : At l k i). told.a_book k i g) (λ g. never_judged g.1) (at_more l None k i h);
      }
