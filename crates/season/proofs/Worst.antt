-- The largest share of a list with one entry more. Assumes nothing.
use Rattle.std.specs.Prelude.{Some, None}
use mathlib.Core.Path.{◌≡◌, refl, sym, ap, ◌∙◌, subst}
use mathlib.Core.Bool.{Bool, true, false}
use mathlib.Core.List.{List}
use mathlib.Core.Logic.{◌⊎◌, inl, inr, ⊎_elim}
use Prim.Native.Nat.{ℕ, ◌≤◌, ◌<◌}
use native.Mathlib.Omega.{arith}
use borrow.Author.Tests.{eq-eqb, ne_eqb}
use lib.ListN.{length}
use Rattle.terms.specs.Numbers.{pick}
use Rattle.terms.proofs.Tests.{le_or_lt}
use Rattle.ratio.specs.Ratio.{exceeds}
use Rattle.ratio.proofs.Laws.{never_itself, one_way, climbs}
use Rattle.season.specs.declared.Judged.{Judged}
use Rattle.season.specs.Tally.{Entry, leads_of}
use Rattle.season.specs.Figures.{At, Leads, Nothing, Something, more}
use Rattle.season.proofs.Lists.{at_lt, at_still, at_last, at_more, never_judged}

abbrev pub Worst : List Entry → ℕ → ℕ → ℕ → Type 0
Worst l place limit book = Nothing l place limit book ⊎ Something l place limit book

abbrev pub Books : List Entry → Type 0
Books l = (k : ℕ) (i : Judged) → At l k i → 0 < i.book

-- the first share leads; any other by the comparison
leads_first : (limit book l b : ℕ) → b ≡ 0 → true ≡ leads_of limit book l b
unfolding leads_of
leads_first limit book l b e = simp (eq-eqb b 0 e)

pub leads_later : (limit book l b : ℕ) {r : Bool} → (b ≡ 0 → ⊥) → r ≡ exceeds limit book l b → r ≡ leads_of limit book l b
unfolding leads_of
leads_later limit book l b w e = simp (ne_eqb b 0 w, e)

clash : {A : Type 0} {b : Bool} → b ≡ true → b ≡ false → A
clash t f = let z : ◌≡◌ {A = ℕ} 0 1 = cc in absurd (omega arith)

module _ (l : List Entry) (place limit book : ℕ) where
  -- one that was refused changes nothing
  pub worst_apart : Worst l place limit book → Worst (more l None) place limit book
  worst_apart (inl n) =
      inl (record {
        none = λ k i h. ⊎_elim (λ (g : At l k i). n.none k i g) (λ g. never_judged g.1) (at_more l None k i h);
        place_zero = n.place_zero;
        limit_zero = n.limit_zero;
        book_zero = n.book_zero;
      })
  worst_apart (inr s) =
      let old = s.leads in
      inr (record {
        first = s.first;
        leads = record {
          here = at_still l None place s.first old.here;
          most = λ k i h. ⊎_elim (λ (g : At l k i). old.most k i g) (λ g. never_judged g.1) (at_more l None k i h);
          earliest = λ k i b h. ⊎_elim (λ (g : At l k i). old.earliest k i b g) (λ g. never_judged g.1) (at_more l None k i h);
        };
        its_limit = s.its_limit;
        its_book = s.its_book;
      })

  module _ (j : Judged) (books : Books l) (some : 0 < j.book) where
    -- a share that leads is above every earlier one
    above_all : true ≡ leads_of j.limit j.book limit book → Worst l place limit book → (k : ℕ) (i : Judged) → At l k i → exceeds j.limit j.book i.limit i.book ≡ true
    above_all e (inl n) k i h = absurd (n.none k i h)
    above_all e (inr s) k i h =
        let its = books place s.first s.leads.here in
        let there : book ≡ 0 → ⊥ = λ z. let b = s.its_book in omega arith in
        let over : exceeds j.limit j.book s.first.limit s.first.book ≡ true =
        ap (λ (x : ℕ). exceeds j.limit j.book x s.first.book) (sym s.its_limit) ∙ ap (λ (x : ℕ). exceeds j.limit j.book limit x) (sym s.its_book) ∙ leads_later _ _ _ _ there refl ∙ sym e in
        climbs j.limit j.book s.first.limit s.first.book i.limit i.book its (books k i h) over (s.leads.most k i h)

    takes_the_lead : true ≡ leads_of j.limit j.book limit book → Worst l place limit book → Worst (more l (Some j)) (length l) j.limit j.book
    takes_the_lead e w =
        inr (record {
          first = j;
          leads = record {
            here = at_last l (Some j);
            most = λ k i h. ⊎_elim (λ (g : At l k i). one_way j.limit j.book i.limit i.book (above_all e w k i g))
                (λ g. let same : j ≡ i = cc in ap (λ (x : Judged). exceeds x.limit x.book j.limit j.book) (sym same) ∙ never_itself j.limit j.book) (at_more l (Some j) k i h);
            earliest = λ k i b h. ⊎_elim (λ (g : At l k i). above_all e w k i g) (λ g. absurd (let z = g.0 in omega arith)) (at_more l (Some j) k i h);
          };
          its_limit = refl;
          its_book = refl;
        })

    follows : false ≡ leads_of j.limit j.book limit book → Worst l place limit book → Worst (more l (Some j)) place limit book
    follows e (inl n) = absurd (let z : true ≡ false = leads_first _ _ _ _ n.book_zero ∙ sym e in let y : ◌≡◌ {A = ℕ} 0 1 = cc in omega arith)
    follows e (inr s) =
        let old = s.leads in
        let its = books place s.first old.here in
        let there : book ≡ 0 → ⊥ = λ z. let b = s.its_book in omega arith in
        let under : exceeds j.limit j.book s.first.limit s.first.book ≡ false =
        ap (λ (x : ℕ). exceeds j.limit j.book x s.first.book) (sym s.its_limit) ∙ ap (λ (x : ℕ). exceeds j.limit j.book limit x) (sym s.its_book) ∙ leads_later _ _ _ _ there refl ∙ sym e in
        inr (record {
          first = s.first;
          leads = record {
            here = at_still l (Some j) place s.first old.here;
            most = λ k i h. ⊎_elim (λ (g : At l k i). old.most k i g)
                (λ g. let same : j ≡ i = cc in ap (λ (x : Judged). exceeds x.limit x.book s.first.limit s.first.book) (sym same) ∙ under) (at_more l (Some j) k i h);
            earliest = λ k i b h. ⊎_elim (λ (g : At l k i). old.earliest k i b g) (λ g. absurd (let z = g.0 in omega (arith, at_lt l place s.first old.here))) (at_more l (Some j) k i h);
          };
          its_limit = s.its_limit;
          its_book = s.its_book;
        })

    -- by the comparison, as the tally has it
    pub worst_more : (added : ℕ) → added ≡ length l → (leading : Bool) → leading ≡ leads_of j.limit j.book limit book → Worst l place limit book →
        Worst (more l (Some j)) (pick leading added place) (pick leading j.limit limit) (pick leading j.book book)
    worst_more added a true e w = subst (λ (n : ℕ). Worst (more l (Some j)) n j.limit j.book) (sym a) (takes_the_lead e w)
    worst_more added a false e w = follows e w

-- one place leads
pub leads_once : (l : List Entry) (p q : ℕ) (j i : Judged) → Leads l p j → Leads l q i → p ≡ q
leads_once l p q j i a b =
    ⊎_elim
    (λ (h : p ≤ q). ⊎_elim (λ (g : q ≤ p). omega arith) (λ (g : p < q). clash (b.earliest p j g a.here) (a.most q i b.here)) (le_or_lt q p))
    (λ (h : q < p). clash (a.earliest q i h b.here) (b.most p j a.here))
    (le_or_lt p q)
