-- Two teams on one table of marks are apart: call by call, from the plain operation on the own bits. Assumes nothing.
use Prim.Native.Nat.{ℕ}
use Rattle.terms.specs.declared.Refusal.{Refusal}
use Rattle.std.specs.Prelude.{Result}
use mathlib.Core.Path.{◌≡◌, sym, ap, subst, ◌∙◌}
use mathlib.Core.Bool.{false}
use mathlib.Core.List.{List}
use lib.IntN.{ℤ}
use lib.ListN.{length, get_or}
use Rattle.terms.specs.Outcome.{accepted}
use Rattle.bits.specs.declared.Bits.{Bits}
use Rattle.bits.specs.Own.{bits_of, bit, owns, TwoTeams}
use Rattle.findings.specs.Findings.{PostPromise}
use Rattle.findings.specs.Batch.{PostAllPromise}
use Rattle.findings.proofs.Answers.{post_once, post_all_once}
use Rattle.teams.specs.Teams.{team_of}
use Rattle.teams.specs.Apart.{MarksCall, splitting, drawing, AnswerTo, Called, RefusedBy, PostCall, posting, batch, PostCalled, Apart}
use Rattle.teams.proofs.Plain.{split_plain, draw_plain}
use Rattle.teams.proofs.Own.{on_agree, on_long, on_refused, on_own, on_stays, on_other, on_either, turned}
use Rattle.teams.proofs.Laws.{team_small, by_team}

module _ (ledger : List ℕ) where
  -- a call that writes marks, of a team that is known by its bits
  module _ (team : ℕ) (bits : Bits) (known : team_of team ≡ accepted bits) where
    alone : (call : MarksCall) (marks others marks' others' : List ℕ) (r s : AnswerTo call) → bits_of bits marks ≡ bits_of bits others →
        Called team ledger call marks r marks' → Called team ledger call others s others' → (r ≡ s) × (bits_of bits marks' ≡ bits_of bits others')
    alone (splitting n) marks others marks' others' r s e p q =
        let plain = split_plain ledger n in
        let small = team_small team bits known in
        let x = p.acting bits known in
        let y = q.acting bits known in
        let same = on_agree plain bits x y e in
        (same.0, on_own plain bits x small ∙ same.1 ∙ sym (on_own plain bits y small))
    alone (drawing n start) marks others marks' others' r s e p q =
        let plain = draw_plain ledger n start in
        let small = team_small team bits known in
        let x = p.acting bits known in
        let y = q.acting bits known in
        let same = on_agree plain bits x y e in
        (same.0, on_own plain bits x small ∙ same.1 ∙ sym (on_own plain bits y small))

    stays : (call : MarksCall) (marks marks' : List ℕ) (r : AnswerTo call) → Called team ledger call marks r marks' → (line k : ℕ) → owns bits k ≡ false →
        bit k (get_or marks' line 0) ≡ bit k (get_or marks line 0)
    stays (splitting n) marks marks' r p = on_stays (split_plain ledger n) bits (p.acting bits known) (team_small team bits known)
    stays (drawing n start) marks marks' r p = on_stays (draw_plain ledger n start) bits (p.acting bits known) (team_small team bits known)

    -- the other team's bits, as a list
    other_bits : (call : MarksCall) (marks marks' : List ℕ) (r : AnswerTo call) → Called team ledger call marks r marks' → (others : Bits) → TwoTeams bits others →
        bits_of others marks' ≡ bits_of others marks
    other_bits (splitting n) marks marks' r p = on_other (split_plain ledger n) bits (p.acting bits known) (team_small team bits known)
    other_bits (drawing n start) marks marks' r p = on_other (draw_plain ledger n start) bits (p.acting bits known) (team_small team bits known)

    -- a call that posts
    post_alone : (call : PostCall) (marks others : List ℕ) (errors errors' errors'' : List ℤ) (r s : Result ℕ Refusal) → bits_of bits marks ≡ bits_of bits others →
        PostCalled team ledger call marks errors r errors' → PostCalled team ledger call others errors s errors'' → (r ≡ s) × (errors' ≡ errors'')
    post_alone (posting line error) marks others errors errors' errors'' r s e p q =
        post_once (subst (λ (own : List ℕ). PostPromise ledger own errors line error r errors') e (p.acting bits known)) (q.acting bits known)
    post_alone (batch lines found) marks others errors errors' errors'' r s e p q =
        post_all_once (subst (λ (own : List ℕ). PostAllPromise ledger own errors lines found r errors') e (p.acting bits known)) (q.acting bits known)

  -- of any byte
  many : (team : ℕ) (call : MarksCall) (marks marks' : List ℕ) (r : AnswerTo call) → Called team ledger call marks r marks' → length marks' ≡ length marks
  many team (splitting n) marks marks' r p =
      by_team team (λ number place e. ap length (p.unknown number place e).1) (λ bits e. on_long (split_plain ledger n) bits (p.acting bits e))
  many team (drawing n start) marks marks' r p =
      by_team team (λ number place e. ap length (p.unknown number place e).1) (λ bits e. on_long (draw_plain ledger n start) bits (p.acting bits e))

  none : (team : ℕ) (call : MarksCall) (marks marks' : List ℕ) (r : AnswerTo call) (number place : ℕ) → Called team ledger call marks r marks' → RefusedBy call r number place → marks' ≡ marks
  none team (splitting n) marks marks' r number place p said =
      by_team team (λ k q e. (p.unknown k q e).1) (λ bits e. on_refused (split_plain ledger n) bits (p.acting bits e) said)
  none team (drawing n start) marks marks' r number place p said =
      by_team team (λ k q e. (p.unknown k q e).1) (λ bits e. on_refused (draw_plain ledger n start) bits (p.acting bits e) said)

  -- two teams
  module _ (team other : ℕ) (bits others : Bits) (known : team_of team ≡ accepted bits) (known₂ : team_of other ≡ accepted others) (two : TwoTeams bits others) where
    either : (call later : MarksCall) (marks first both second back : List ℕ) (r r' : AnswerTo call) (s s' : AnswerTo later) →
        Called team ledger call marks r first → Called other ledger later first s both →
        Called other ledger later marks s' second → Called team ledger call second r' back → (r ≡ r') × (s ≡ s') × (both ≡ back)
    either (splitting n) (splitting m) marks first both second back r r' s s' p q q' p' =
        on_either (split_plain ledger n) (split_plain ledger m) two (p.acting bits known) (q.acting others known₂) (q'.acting others known₂) (p'.acting bits known)
    either (splitting n) (drawing m start) marks first both second back r r' s s' p q q' p' =
        on_either (split_plain ledger n) (draw_plain ledger m start) two (p.acting bits known) (q.acting others known₂) (q'.acting others known₂) (p'.acting bits known)
    either (drawing n start) (splitting m) marks first both second back r r' s s' p q q' p' =
        on_either (draw_plain ledger n start) (split_plain ledger m) two (p.acting bits known) (q.acting others known₂) (q'.acting others known₂) (p'.acting bits known)
    either (drawing n start) (drawing m begin) marks first both second back r r' s s' p q q' p' =
        on_either (draw_plain ledger n start) (draw_plain ledger m begin) two (p.acting bits known) (q.acting others known₂) (q'.acting others known₂) (p'.acting bits known)

    post_either : (call : PostCall) (later : MarksCall) (marks marks' : List ℕ) (errors errors' errors'' : List ℤ) (r r' : Result ℕ Refusal) (s : AnswerTo later) →
        Called other ledger later marks s marks' → PostCalled team ledger call marks errors r errors' → PostCalled team ledger call marks' errors r' errors'' →
        (r ≡ r') × (errors' ≡ errors'')
    post_either call later marks marks' errors errors' errors'' r r' s m p q =
        post_alone team bits known call marks marks' errors errors' errors'' r r' (sym (other_bits other others known₂ later marks marks' s m bits (turned two))) p q

pub apart : (ledger : List ℕ) → Apart ledger
apart ledger =
    record {
      alone = alone ledger;
      post_alone = post_alone ledger;
      others_stay = stays ledger;
      as_many = many ledger;
      refused_none = none ledger;
      either_order = either ledger;
      post_either = post_either ledger;
    }
