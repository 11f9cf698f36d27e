-- Which bits a team has, which refusals a team's call gives, and that its promise leaves no freedom. Assumes nothing.
use Prim.Native.Nat.{ℕ}
use Rattle.terms.specs.declared.Refusal.{Refusal}
use Rattle.std.specs.Prelude.{Result}
use Rattle.split.specs.declared.Figures.{Figures}
use mathlib.Core.Path.{◌≡◌, refl, sym, subst, ◌∙◌}
use mathlib.Core.List.{List, [], ◌∷◌}
use lib.Dec.{T, eqb}
use lib.IntN.{ℤ}
use Rattle.terms.specs.Outcome.{Outcome, accepted, refused, says}
use Rattle.terms.specs.Numbers.{AllUpTo}
use Rattle.terms.proofs.Outcomes.{never, all_among, Gives, gives_after, gives_among}
use Rattle.terms.proofs.Tests.{by_test}
use Rattle.bits.specs.declared.Bits.{Bits}
use Rattle.bits.specs.declared.Bits.TheVariants.{Low, High}
use Rattle.bits.specs.Own.{bits_of}
use Rattle.bits.proofs.Lists.{low_small, high_small}
use Rattle.split.specs.Split.{split_of}
use Rattle.split.proofs.Facts.{split_numbers, split_gives}
use Rattle.split.proofs.Start.{figures_numbers}
use Rattle.draw.specs.Draw.{draw_of}
use Rattle.draw.proofs.Laws.{draw_gives}
use Rattle.findings.specs.Findings.{post_of}
use Rattle.findings.specs.Batch.{post_all_of}
use Rattle.terms.proofs.Answers.{says_once}
use Rattle.findings.proofs.Answers.{post_numbers, findings_gives, batch_gives, post_once, post_all_once}
use Rattle.teams.specs.Teams.{team_a, team_b, team_of, ByTeam, TeamSplitPromise, TeamDrawPromise, TeamPostPromise, TeamPostAllPromise}
use Rattle.teams.proofs.Plain.{split_plain, draw_plain}
use Rattle.teams.proofs.Own.{on_once}

-- a team's bits hold at most 3
pub team_small : (team : ℕ) (bits : Bits) → team_of team ≡ accepted bits → (l : List ℕ) → AllUpTo 3 (bits_of bits l)
unfolding team_of
team_small team bits =
    by_test (λ (o : Outcome Bits). o ≡ accepted bits → (l : List ℕ) → AllUpTo 3 (bits_of bits l)) (eqb team team_a)
    (λ t e l. let is : Low ≡ bits = cc in subst (λ (b : Bits). AllUpTo 3 (bits_of b l)) is (low_small l))
    (λ t. by_test (λ (o : Outcome Bits). o ≡ accepted bits → (l : List ℕ) → AllUpTo 3 (bits_of bits l)) (eqb team team_b)
    (λ u e l. let is : High ≡ bits = cc in subst (λ (b : Bits). AllUpTo 3 (bits_of b l)) is (high_small l)) (λ u e. never e))

-- a byte that is no team gives 24 and nothing else
pub team_gives : (team : ℕ) → Gives (24 ∷ []) (team_of team)
unfolding team_of
team_gives team = by_test (Gives (24 ∷ [])) (eqb team team_a) (λ t. tt) (λ t. by_test (Gives (24 ∷ [])) (eqb team team_b) (λ u. tt) (λ u. tt))

-- by whether the team is known
pub by_team : {P : Type 0} (team : ℕ) → ((number place : ℕ) → team_of team ≡ refused number place → P) → ((bits : Bits) → team_of team ≡ accepted bits → P) → P
by_team {P} team unknown known = go (team_of team) refl
  where
    go : (o : Outcome Bits) → team_of team ≡ o → P
    go (accepted bits) e = known bits e
    go (refused number place) e = unknown number place e

-- a team's call gives 24, and what the plain operation gives
by_team_gives : {A R B : Type 0} {says : R → Outcome A} {team : ℕ} {Acting : Bits → Type 0} {before : B} {r : R} {exit : B} (numbers : List ℕ) → T (all_among (24 ∷ []) numbers) →
    ((bits : Bits) → Acting bits → Gives numbers (says r)) → ByTeam says team Acting before r exit → Gives numbers (says r)
by_team_gives {A} {team = team} numbers listed acts p =
    by_team team
    (λ number place e. subst (Gives numbers) (sym (p.unknown number place e).0) (gives_among {A = A} (24 ∷ []) numbers listed (refused number place) (subst (Gives (24 ∷ [])) e (team_gives team))))
    (λ bits e. acts bits (p.acting bits e))

pub team_split_gives : {team : ℕ} {ledger : List ℕ} {n : ℕ} {marks : List ℕ} {r : Result Figures Refusal} {b : List ℕ} → TeamSplitPromise team ledger n marks r b → Gives (24 ∷ split_numbers) (says r)
team_split_gives {ledger = ledger} {n = n} =
    by_team_gives (24 ∷ split_numbers) tt
    (λ bits on. subst (Gives (24 ∷ split_numbers)) (sym on.promised.answer) (gives_among split_numbers (24 ∷ split_numbers) tt (split_of ledger n _) (split_gives ledger n _)))

pub team_draw_gives : {team : ℕ} {ledger : List ℕ} {n start : ℕ} {marks : List ℕ} {r : Result ℕ Refusal} {b : List ℕ} → TeamDrawPromise team ledger n start marks r b →
    Gives (24 ∷ figures_numbers) (says r)
team_draw_gives {ledger = ledger} {n = n} {start = start} =
    by_team_gives (24 ∷ figures_numbers) tt
    (λ bits on. subst (Gives (24 ∷ figures_numbers)) (sym on.promised.answer) (gives_among figures_numbers (24 ∷ figures_numbers) tt (draw_of ledger n start _) (draw_gives ledger n start _)))

pub team_post_gives : {team : ℕ} {ledger : List ℕ} (marks : List ℕ) {errors : List ℤ} {line : ℕ} {error : ℤ} {r : Result ℕ Refusal} {b : List ℤ} → TeamPostPromise team ledger marks errors line error r b →
    Gives (24 ∷ post_numbers) (says r)
team_post_gives {ledger = ledger} marks {errors} {line} {error} =
    by_team_gives (24 ∷ post_numbers) tt
    (λ bits p. subst (Gives (24 ∷ post_numbers)) (sym p.answer)
    (gives_after (24 ∷ post_numbers) (λ posted. accepted 1) (post_of ledger _ errors line error)
    (gives_among post_numbers (24 ∷ post_numbers) tt (post_of ledger _ errors line error) (findings_gives ledger _ errors line error)) (λ posted. tt)))

pub team_post_all_gives : {team : ℕ} {ledger : List ℕ} (marks : List ℕ) {errors : List ℤ} {lines : List ℕ} {found : List ℤ} {r : Result ℕ Refusal} {b : List ℤ} →
    TeamPostAllPromise team ledger marks errors lines found r b → Gives (24 ∷ post_numbers) (says r)
team_post_all_gives {ledger = ledger} marks {errors} {lines} {found} =
    by_team_gives (24 ∷ post_numbers) tt
    (λ bits p. subst (Gives (24 ∷ post_numbers)) (sym p.answer)
    (gives_among post_numbers (24 ∷ post_numbers) tt (post_all_of ledger _ errors lines found).says (batch_gives ledger _ errors lines found)))

-- any two results that meet a team's promise agree
by_team_once : {A R B : Type 0} {says : R → Outcome A} {team : ℕ} {Acting Acts : Bits → Type 0} {before : B} {r s : R} {b c : B} →
    ((o : Outcome A) → says r ≡ o → says s ≡ o → r ≡ s) → ((bits : Bits) → Acting bits → Acts bits → (r ≡ s) × (b ≡ c)) →
    ByTeam says team Acting before r b → ByTeam says team Acts before s c → (r ≡ s) × (b ≡ c)
by_team_once {team = team} one acts p q =
    by_team team
    (λ number place e. let x = p.unknown number place e in
    let y = q.unknown number place e in
    (one (refused number place) x.0 y.0, x.1 ∙ sym y.1))
    (λ bits e. acts bits (p.acting bits e) (q.acting bits e))

pub team_split_once : {team : ℕ} {ledger : List ℕ} {n : ℕ} {marks : List ℕ} {r s : Result Figures Refusal} {b c : List ℕ} → TeamSplitPromise team ledger n marks r b → TeamSplitPromise team ledger n marks s c →
    (r ≡ s) × (b ≡ c)
team_split_once {ledger = ledger} {n = n} {r = r} {s = s} =
    let plain = split_plain ledger n in by_team_once (λ o. plain.answer_once o r s) (λ bits. on_once plain bits)

pub team_draw_once : {team : ℕ} {ledger : List ℕ} {n start : ℕ} {marks : List ℕ} {r s : Result ℕ Refusal} {b c : List ℕ} →
    TeamDrawPromise team ledger n start marks r b → TeamDrawPromise team ledger n start marks s c → (r ≡ s) × (b ≡ c)
team_draw_once {ledger = ledger} {n = n} {start = start} {r = r} {s = s} =
    let plain = draw_plain ledger n start in by_team_once (λ o. plain.answer_once o r s) (λ bits. on_once plain bits)

pub team_post_once : {team : ℕ} {ledger : List ℕ} (marks : List ℕ) {errors : List ℤ} {line : ℕ} {error : ℤ} {r s : Result ℕ Refusal} {b c : List ℤ} →
    TeamPostPromise team ledger marks errors line error r b → TeamPostPromise team ledger marks errors line error s c → (r ≡ s) × (b ≡ c)
team_post_once marks {r = r} {s = s} = by_team_once (λ o. says_once r s) (λ bits. post_once)

pub team_post_all_once : {team : ℕ} {ledger : List ℕ} (marks : List ℕ) {errors : List ℤ} {lines : List ℕ} {found : List ℤ} {r s : Result ℕ Refusal} {b c : List ℤ} →
    TeamPostAllPromise team ledger marks errors lines found r b → TeamPostAllPromise team ledger marks errors lines found s c → (r ≡ s) × (b ≡ c)
team_post_all_once marks {r = r} {s = s} = by_team_once (λ o. says_once r s) (λ bits. post_all_once)
