-- A plain operation on the own bits: what two such calls have in common, and what each leaves. Assumes nothing.
use Prim.Native.Nat.{ℕ}
use mathlib.Core.Path.{◌≡◌, sym, ap, subst, ◌∙◌}
use mathlib.Core.Bool.{false}
use mathlib.Core.List.{List}
use lib.ListN.{length, get_or}
use Rattle.terms.specs.Outcome.{Outcome, refused}
use Rattle.terms.specs.Numbers.{AllUpTo}
use Rattle.bits.specs.declared.Bits.{Bits}
use Rattle.bits.specs.Own.{bits_of, with_bits, bit, owns, TwoTeams, low_high, high_low}
use Rattle.bits.proofs.Lists.{bits_length, with_length, with_again, with_read, with_stays, with_other, with_either, low_small, high_small}
use Rattle.teams.specs.Teams.{OnBits}
use Rattle.teams.proofs.Plain.{Plain}

module _ {A R : Type 0} {says : R → Outcome A} {Promise : List ℕ → R → List ℕ → Type 0} (plain : Plain says Promise) (bits : Bits) where
  module _ {marks others : List ℕ} {r s : R} {b c : List ℕ} (p : OnBits Promise bits marks r b) (q : OnBits Promise bits others s c) where
    -- marks that agree in the own bits have one answer and one list of own bits at exit
    pub on_agree : bits_of bits marks ≡ bits_of bits others → (r ≡ s) × (p.own ≡ q.own)
    on_agree e = plain.once (bits_of bits others) r s p.own q.own (subst (λ (own : List ℕ). Promise own r p.own) e p.promised) q.promised

  pub on_once : {marks : List ℕ} {r s : R} {b c : List ℕ} → OnBits Promise bits marks r b → OnBits Promise bits marks s c → (r ≡ s) × (b ≡ c)
  on_once {marks} p q = let same = on_agree p q (λ i. bits_of bits marks) in (same.0, p.written ∙ ap (with_bits bits marks) same.1 ∙ sym q.written)

  module _ {marks : List ℕ} {r : R} {b : List ℕ} (p : OnBits Promise bits marks r b) where
    pub on_long : length b ≡ length marks
    on_long = ap length p.written ∙ with_length bits marks p.own

    pub on_refused : {n k : ℕ} → says r ≡ refused n k → b ≡ marks
    on_refused {n} {k} e = p.written ∙ ap (with_bits bits marks) (plain.keeps (bits_of bits marks) r p.own n k p.promised e) ∙ with_again bits marks

    -- a team's own bits are at most 3
    module _ (team : (l : List ℕ) → AllUpTo 3 (bits_of bits l)) where
      own_small : AllUpTo 3 p.own
      own_small = plain.small (bits_of bits marks) r p.own (team marks) p.promised

      -- the own bits at exit are read back
      pub on_own : bits_of bits b ≡ p.own
      on_own = ap (bits_of bits) p.written ∙ with_read bits marks p.own own_small (plain.long (bits_of bits marks) r p.own p.promised ∙ bits_length bits marks)

      pub on_stays : (line k : ℕ) → owns bits k ≡ false → bit k (get_or b line 0) ≡ bit k (get_or marks line 0)
      on_stays line k other = ap (λ (l : List ℕ). bit k (get_or l line 0)) p.written ∙ with_stays bits marks p.own own_small line k other

      pub on_other : (others : Bits) → TwoTeams bits others → bits_of others b ≡ bits_of others marks
      on_other others two = ap (bits_of others) p.written ∙ with_other two marks p.own own_small

-- the bits of either of two teams are at most 3
pub first_small : {a b : Bits} → TwoTeams a b → (l : List ℕ) → AllUpTo 3 (bits_of a l)
first_small low_high l = low_small l
first_small high_low l = high_small l

pub turned : {a b : Bits} → TwoTeams a b → TwoTeams b a
turned low_high = high_low
turned high_low = low_high

-- two teams' calls in either order
module _ {A R : Type 0} {says : R → Outcome A} {P : List ℕ → R → List ℕ → Type 0} (plain : Plain says P)
    {B S : Type 0} {tells : S → Outcome B} {Q : List ℕ → S → List ℕ → Type 0} (other : Plain tells Q) {a b : Bits} (two : TwoTeams a b) where
  pub on_either : {marks first both second back : List ℕ} {r r' : R} {s s' : S} → OnBits P a marks r first → OnBits Q b first s both → OnBits Q b marks s' second → OnBits P a second r' back →
      (r ≡ r') × (s ≡ s') × (both ≡ back)
  on_either {marks} p q q' p' =
      let mine = on_agree plain a p p' (sym (on_other other b q' (first_small (turned two)) a (turned two))) in
      let theirs = on_agree other b q q' (on_other plain a p (first_small two) b two) in (
        mine.0,
        theirs.0,
        q.written ∙ (λ i. with_bits b (p.written i) (theirs.1 i))
            ∙ with_either two marks p.own q'.own (own_small plain a p (first_small two)) (own_small other b q' (first_small (turned two)))
            ∙ (λ i. with_bits a (sym q'.written i) (mine.1 i)) ∙ sym p'.written,
      )
