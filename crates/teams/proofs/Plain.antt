-- What a team's call uses of the plain operation that writes marks, of the split and of the draw. Assumes nothing.
use Prim.Native.Nat.{ℕ, ◌+◌, ◌≤◌}
use native.Mathlib.Omega.{arith}
use mathlib.Core.Path.{◌≡◌, refl, sym, ap, subst, ◌∙◌}
use mathlib.Core.Bool.{Bool, true, false}
use mathlib.Core.List.{List, [], ◌∷◌}
use lib.Dec.{ltb}
use lib.ListN.{length}
use Rattle.terms.specs.Outcome.{Outcome, accepted, refused, left, says}
use Rattle.terms.specs.Numbers.{AllUpTo}
use Rattle.terms.proofs.Outcomes.{refused_first}
use Rattle.terms.proofs.Answers.{says_once}
use Rattle.terms.proofs.Tests.{by_test}
use Rattle.split.specs.Split.{split_of, full_marks, marks_of, SplitPromise}
use Rattle.split.specs.Start.{figures_for}
use Rattle.split.proofs.Facts.{split_facts}
use Rattle.split.proofs.Marks.{full_length}
use Rattle.split.proofs.Once.{split_once}
use Rattle.split.proofs.Start.{start_facts}
use Rattle.draw.specs.Points.{covers}
use Rattle.draw.specs.Row.{full, cents, mark_by, marks_from, draw_marks, ones}
use Rattle.draw.specs.Draw.{marks_at, draw_of, DrawPromise}
use Rattle.draw.proofs.Laws.{draw_marks_lem, marks_length}
use Rattle.draw.proofs.Once.{draw_once}

-- it has one answer and one list of marks; these are as many as before, and at most 3 where they were; a refusal leaves them
pub record Plain {A R : Type 0} (says : R → Outcome A) (Promise : List ℕ → R → List ℕ → Type 0) : Type 0 where
  pub answer_once : (o : Outcome A) (r s : R) → says r ≡ o → says s ≡ o → r ≡ s
  pub once : (marks : List ℕ) (r s : R) (b c : List ℕ) → Promise marks r b → Promise marks s c → (r ≡ s) × (b ≡ c)
  pub long : (marks : List ℕ) (r : R) (b : List ℕ) → Promise marks r b → length b ≡ length marks
  pub small : (marks : List ℕ) (r : R) (b : List ℕ) → AllUpTo 3 marks → Promise marks r b → AllUpTo 3 b
  pub keeps : (marks : List ℕ) (r : R) (b : List ℕ) (n p : ℕ) → Promise marks r b → says r ≡ refused n p → b ≡ marks

-- marks that an accepted call writes and a refusal leaves
module _ {A : Type 0} (written : A → List ℕ) (marks : List ℕ) where
  left_long : (o : Outcome A) → ((a : A) → o ≡ accepted a → length (written a) ≡ length marks) → length (left written marks o) ≡ length marks
  left_long (accepted a) h = h a refl
  left_long (refused n p) h = refl

  left_small : (o : Outcome A) → ((a : A) → AllUpTo 3 (written a)) → AllUpTo 3 marks → AllUpTo 3 (left written marks o)
  left_small (accepted a) h m = h a
  left_small (refused n p) h m = m

full_small : (J : ℕ) (ledger : List ℕ) → AllUpTo 3 (full_marks J ledger)
unfolding full_marks
full_small J [] = tt
full_small J (v ∷ l) = (by_test (λ (k : ℕ). k ≤ 3) (ltb J v) (λ t. omega arith) (λ t. omega arith), full_small J l)

mark_small : (f c : Bool) → mark_by f c ≤ 3
mark_small true c = omega arith
mark_small false true = omega arith
mark_small false false = omega arith

from_small : (J s o : ℕ) (vs : List ℕ) → AllUpTo 3 (marks_from J s o vs)
unfolding marks_from
from_small J s o [] = tt
from_small J s o (v ∷ vs) = (mark_small (full J v) (covers J s o v), from_small J s (o + cents J v) vs)

draw_small : (J s : ℕ) (ledger : List ℕ) → AllUpTo 3 (draw_marks J s ledger)
draw_small J s ledger = subst (AllUpTo 3) (sym (draw_marks_lem J s ledger)) (from_small J s 0 ledger)

pub split_plain : (ledger : List ℕ) (n : ℕ) → Plain says (SplitPromise ledger n)
split_plain ledger n =
    record {
      answer_once = λ o r s p q. says_once r s p q;
      once = λ marks r s b c p q. split_once p q;
      long = λ marks r b p.
          ap length p.marks_left
          ∙ left_long (marks_of ledger) marks (split_of ledger n (length marks)) (λ f e. full_length f.interval ledger ∙ sym (split_facts ledger n (length marks) f e).ledger_good.same);
      small = λ marks r b m p. subst (AllUpTo 3) (sym p.marks_left) (left_small (marks_of ledger) marks (split_of ledger n (length marks)) (λ f. full_small f.interval ledger) m);
      keeps = λ marks r b k q p e. p.marks_left ∙ ap (left (marks_of ledger) marks) (sym p.answer ∙ e);
    }

-- a refused draw has no figures
no_figures : (ledger : List ℕ) (n start beside : ℕ) {k q : ℕ} → draw_of ledger n start beside ≡ refused k q → figures_for ledger n start beside ≡ refused k q
unfolding draw_of
no_figures ledger n start beside e = refused_first (λ f. ones (marks_at ledger start f)) (figures_for ledger n start beside) (sym e)

pub draw_plain : (ledger : List ℕ) (n start : ℕ) → Plain says (DrawPromise ledger n start)
draw_plain ledger n start =
    record {
      answer_once = λ o r s p q. says_once r s p q;
      once = λ marks r s b c p q. draw_once p q;
      long = λ marks r b p.
          ap length p.marks_left
          ∙ left_long (marks_at ledger start) marks (figures_for ledger n start (length marks))
          (λ f e. ap length (draw_marks_lem f.interval start ledger) ∙ marks_length f.interval start 0 ledger ∙ sym (start_facts ledger n start (length marks) f e).facts.ledger_good.same);
      small = λ marks r b m p.
          subst (AllUpTo 3) (sym p.marks_left) (left_small (marks_at ledger start) marks (figures_for ledger n start (length marks)) (λ f. draw_small f.interval start ledger) m);
      keeps = λ marks r b k q p e. p.marks_left ∙ ap (left (marks_at ledger start) marks) (no_figures ledger n start (length marks) (sym p.answer ∙ e));
    }
