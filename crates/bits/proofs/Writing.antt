-- A loop that writes the own bits of the marks, line by line: the marks so far, with the own bits to come, are the whole. Assumes nothing.
use Prim.Native.Nat.{ℕ, suc, ◌+◌, ◌≤◌, ◌<◌}
use native.Mathlib.Numerals.{add-one}
use native.Mathlib.Omega.{arith}
use mathlib.Core.Path.{◌≡◌, refl, sym, ap, ◌∙◌}
use mathlib.Core.List.{List, [], ◌∷◌, ◌++◌, append-nil}
use lib.ListN.{length, get_or, take, drop, set, drop_of_length-le}
use lib.Seq.{drop-cons, take-suc-set, take_all, append_snoc, drop-set-lt}
use Rattle.bits.specs.declared.Bits.{Bits}
use Rattle.bits.specs.Own.{with_own, with_bits}

-- the marks before a line are written, and the own bits to come are written from it on
pub record Writing (bits : Bits) (whole marks : List ℕ) (line : ℕ) (coming : List ℕ) : Type 0 where
  pub written : take line marks ++ with_bits bits (drop line marks) coming ≡ whole

pub writing_none : (bits : Bits) (marks coming : List ℕ) → Writing bits (with_bits bits marks coming) marks 0 coming
writing_none bits marks coming = record { written = refl }

module _ {bits : Bits} {whole marks : List ℕ} {line : ℕ} {coming : List ℕ} (at : Writing bits whole marks line coming) where
  pub writing_more : (new : ℕ) (later : List ℕ) {mark : ℕ} → line < length marks → coming ≡ new ∷ later → mark ≡ with_own bits (get_or marks line 0) new →
      Writing bits whole (set marks line mark) (line + 1) later
  unfolding with_bits
  writing_more new later {mark} more e is =
      let first : take (line + 1) (set marks line mark) ≡ take line marks ++ (mark ∷ []) = ap (λ (k : ℕ). take k (set marks line mark)) (add-one line) ∙ take-suc-set marks line mark more in
      let rest : drop (line + 1) (set marks line mark) ≡ drop (line + 1) marks = drop-set-lt (line + 1) marks line mark (omega arith) in
      let here : with_bits bits (drop line marks) coming ≡ with_own bits (get_or marks line 0) new ∷ with_bits bits (drop (suc line) marks) later =
      (λ i. with_bits bits (drop-cons marks line 0 more i) (e i)) in
      record {
        written =
            (λ i. first i ++ with_bits bits (rest i) later) ∙ append_snoc (take line marks) mark (with_bits bits (drop (line + 1) marks) later)
            ∙ (λ i. take line marks ++ (is i ∷ with_bits bits (drop (add-one line i) marks) later)) ∙ ap (λ (l : List ℕ). take line marks ++ l) (sym here) ∙ at.written;
      }

  pub writing_end : length marks ≤ line → marks ≡ whole
  unfolding with_bits
  writing_end h =
      let none : with_bits bits (drop line marks) coming ≡ [] = ap (λ (l : List ℕ). with_bits bits l coming) (drop_of_length-le marks h) in
      sym (append-nil marks) ∙ (λ i. sym (take_all line marks h) i ++ sym none i) ∙ at.written
