-- A team's call, as the code meets it: the team's refusal, or the plain operation on its own bits. Assumes nothing.
use Prim.Native.Nat.{ℕ, ◌^◌, ◌<◌}
use Rattle.std.specs.Prelude.{Result, Ok, Err}
use mathlib.Core.Path.{◌≡◌, refl, sym, ap, subst, ◌∙◌}
use mathlib.Core.List.{List}
use lib.IntN.{ℤ}
use lib.ListN.{length}
use lib.Signed.{mag}
use Rattle.terms.specs.declared.Refusal.{Refusal}
use Rattle.terms.specs.Outcome.{Outcome, accepted, refused, refused_by, after, left, says}
use Rattle.terms.proofs.Outcomes.{never}
use Rattle.signed.proofs.Signs.{held, kept}
use Rattle.bits.specs.declared.Bits.{Bits}
use Rattle.bits.specs.Own.{bits_of, with_bits}
use Rattle.bits.proofs.Lists.{bits_length, with_again}
use Rattle.split.specs.declared.Figures.{Figures}
use Rattle.split.specs.Split.{marks_of, FiguresPromise, SplitPromise}
use Rattle.split.specs.Start.{FiguresForPromise}
use Rattle.draw.specs.Row.{draw_marks, ones}
use Rattle.draw.specs.Draw.{marks_at, draw_of, DrawPromise}
use Rattle.teams.specs.Teams.{team_of, OnBits, OwnMarked, ByTeam, TeamPostPromise}

-- the figures are judged beside as many own bits as there are marks
beside_own : {ledger : List ℕ} {n : ℕ} (bits : Bits) (marks : List ℕ) {r : Result Figures Refusal} → FiguresPromise ledger n (length marks) r → FiguresPromise ledger n (length (bits_of bits marks)) r
beside_own {ledger} {n} bits marks {r} = subst (λ (k : ℕ). FiguresPromise ledger n k r) (sym (bits_length bits marks))

-- the split: a refusal leaves every bit, and the marks of its figures are the own bits
pub on_split : {ledger : List ℕ} {n : ℕ} {bits : Bits} {marks marks' : List ℕ} {r : Result Figures Refusal} → FiguresPromise ledger n (length marks) r →
    marks' ≡ with_bits bits marks (left (marks_of ledger) (bits_of bits marks) (says r)) → OnBits (SplitPromise ledger n) bits marks r marks'
on_split {ledger} {bits = bits} {marks} {r = r} p m =
    let q = beside_own bits marks p in
    record {
      own = left (marks_of ledger) (bits_of bits marks) (says r);
      promised = record { answer = q.answer; draw_kept = q.draw_kept; marks_left = ap (left (marks_of ledger) (bits_of bits marks)) q.answer };
      written = m;
    }

started_own : {ledger : List ℕ} {n start : ℕ} (bits : Bits) (marks : List ℕ) {r : Result Figures Refusal} → FiguresForPromise ledger n start (length marks) r →
    FiguresForPromise ledger n start (length (bits_of bits marks)) r
started_own {ledger} {n} {start} bits marks {r} = subst (λ (k : ℕ). FiguresForPromise ledger n start k r) (sym (bits_length bits marks))

-- the draw
module _ {ledger : List ℕ} {n start : ℕ} {bits : Bits} {marks : List ℕ} where
  pub own_refused : {why : Refusal} → FiguresForPromise ledger n start (length marks) (Err why) → OnBits (DrawPromise ledger n start) bits marks (Err why) marks
  unfolding draw_of
  own_refused p =
      let q = (started_own bits marks p).answer in
      record {
        own = bits_of bits marks;
        promised = record { answer = ap (after (λ figures. accepted (ones (marks_at ledger start figures)))) q; marks_left = ap (left (marks_at ledger start) (bits_of bits marks)) q };
        written = sym (with_again bits marks);
      }

  pub own_drawn : {f : Figures} {drawn : ℕ} {marks' : List ℕ} → FiguresForPromise ledger n start (length marks) (Ok f) → OwnMarked bits f.interval start ledger marks drawn marks' →
      OnBits (DrawPromise ledger n start) bits marks (Ok drawn) marks'
  unfolding draw_of
  own_drawn {f} p m =
      let q = (started_own bits marks p).answer in
      record {
        own = draw_marks f.interval start ledger;
        promised =
            record {
              answer = ap accepted m.count ∙ ap (after (λ figures. accepted (ones (marks_at ledger start figures)))) q;
              marks_left = ap (left (marks_at ledger start) (bits_of bits marks)) q;
            };
        written = m.written;
      }

-- a refusal is the same whatever would have been accepted
same_refusal : {A B : Type 0} {n p m q : ℕ} → ◌≡◌ {A = Outcome A} (refused n p) (refused m q) → ◌≡◌ {A = Outcome B} (refused n p) (refused m q)
same_refusal {A} {B} {n} {p} {m} {q} e =
    let number : n ≡ m = cc in
    let place : p ≡ q = cc in
    λ i. refused (number i) (place i)

-- every operation: an unknown team, and one that is known
module _ {A R B : Type 0} {says : R → Outcome A} {Acting : Bits → Type 0} {before : B} {r : R} (team : ℕ) where
  pub team_unknown : (why : Refusal) → refused_by why ≡ team_of team → says r ≡ refused_by why → ByTeam says team Acting before r before
  team_unknown why known says_so = record { unknown = λ number place u. (says_so ∙ same_refusal (known ∙ u), refl); acting = λ bits u. never (known ∙ u) }

  pub team_acting : (bits : Bits) {exit : B} → accepted bits ≡ team_of team → Acting bits → ByTeam says team Acting before r exit
  team_acting bits known acts =
      record {
        unknown = λ number place u. never (sym u ∙ sym known);
        acting = λ others u. let both : ◌≡◌ {A = Outcome Bits} (accepted bits) (accepted others) = known ∙ u in
            let same : bits ≡ others = cc in
            subst Acting same acts;
      }

-- a finding of a team, as an export meets it: the error that it hands on was read from its bits
pub team_post_read : (team : ℕ) (ledger marks : List ℕ) (errors : List ℤ) (line : ℕ) (error : ℤ) → mag error < 2 ^ 63 → {r : Result ℕ Refusal} {errors' : List ℤ} →
    TeamPostPromise team ledger marks errors line (held error) r errors' → TeamPostPromise team ledger marks errors line error r errors'
team_post_read team ledger marks errors line error fits {r} {errors'} told =
    subst (λ (z : ℤ). TeamPostPromise team ledger marks errors line z r errors') (kept error fits) told
