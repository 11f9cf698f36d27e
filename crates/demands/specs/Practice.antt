-- The practice sheet's cases marked *, in one list: what is asked, what the sheet says, what the definitions find. Definitions: nothing is assumed.
use Rattle.std.specs.Prelude.{ℕ, suc, ◌+◌, ◌*◌, ◌≡◌, false, List, [], ◌∷◌, map, eqb, pos, length, get_or}
use Rattle.terms.specs.Outcome.{Outcome, accepted, refused, after}
use Rattle.terms.specs.Numbers.{pick, sum}
use Rattle.size.specs.Size.{size_of}
use Rattle.split.specs.Rounds.{intervals}
use Rattle.split.specs.Split.{split_of, marks_of}
use Rattle.draw.specs.Draw.{draw_of}
use Rattle.project.specs.Project.{project_of}
use Rattle.judge.specs.declared.Verdict.{Verdict}
use Rattle.judge.specs.declared.Verdict.TheVariants.{Below, Inconclusive}
use Rattle.judge.specs.Judge.{judge_of}
use Rattle.demands.specs.Starts.{sum_below, one_if}
use Rattle.demands.specs.Demand3.{marks_for, projected_for, sampled_in, full_in}

-- what a case asks for; the errors of the sheet are overstatements
pub data Question : Type 0 where
  -- how many draws, for a level, a total, TE and AE
  draws : ℕ → ℕ → ℕ → ℕ → Question
  -- of a ledger and n: the intervals of the rounds, the final interval, the full lines, the draws left
  rounds_of : List ℕ → ℕ → Question
  interval_of : List ℕ → ℕ → Question
  full_lines_of : List ℕ → ℕ → Question
  draws_left_of : List ℕ → ℕ → Question
  -- the lines that are drawn, of a ledger and n at a start
  drawn_lines : List ℕ → ℕ → ℕ → Question
  -- how many starts there are, and how many of them draw a line
  starts_that_draw : List ℕ → ℕ → ℕ → Question
  -- the projected error, of a ledger and n at a start with these errors entered
  projected : List ℕ → ℕ → ℕ → List ℕ → Question
  -- the projected errors over all starts, with the true errors entered for drawn and full lines only, and the true error as often
  over_all_starts : List ℕ → ℕ → List ℕ → Question
  -- the projected error, the precision and the upper limit, at a level, of a ledger and n at a start with these errors entered, and TE
  limits : ℕ → List ℕ → ℕ → ℕ → List ℕ → ℕ → Question
  -- the verdict, of the same
  verdict_on : ℕ → List ℕ → ℕ → ℕ → List ℕ → ℕ → Question

-- what answers a question: numbers, or a verdict
pub data Answer : Type 0 where
  these : List ℕ → Answer
  this : Verdict → Answer

-- a case: what is asked, and what the sheet says, an answer or a refusal
pub record Case : Type 0 where
  pub asked : Question
  pub says : Outcome Answer

-- the lines with a mark, from a line's number on
unfoldable pub with_mark : ℕ → ℕ → List ℕ → List ℕ
with_mark mark line [] = []
with_mark mark line (here ∷ later) = pick (eqb here mark) (line ∷ with_mark mark (suc line) later) (with_mark mark (suc line) later)

-- an answer in numbers
abbrev pub numbers : {A : Type 0} → (A → List ℕ) → Outcome A → Outcome Answer
numbers shown outcome = after (λ a. accepted (these (shown a))) outcome

-- what the operations' definitions find
unfoldable pub found : Question → Outcome Answer
found (draws level total te ae) = numbers (λ n. n ∷ []) (size_of level total te ae)
found (rounds_of ledger n) = numbers (λ figures. intervals n ledger n) (split_of ledger n (length ledger))
found (interval_of ledger n) = numbers (λ figures. figures.interval ∷ []) (split_of ledger n (length ledger))
found (full_lines_of ledger n) = numbers (λ figures. with_mark 2 0 (marks_of ledger figures)) (split_of ledger n (length ledger))
found (draws_left_of ledger n) = numbers (λ figures. figures.draws_left ∷ []) (split_of ledger n (length ledger))
found (drawn_lines ledger n start) = numbers (λ lines. with_mark 1 0 (marks_for ledger n start)) (draw_of ledger n start (length ledger))
found (starts_that_draw ledger n line) =
    numbers (λ figures. figures.interval ∷ sum_below figures.interval (λ start. one_if (eqb (get_or (marks_for ledger n start) line 0) 1)) ∷ [])
    (split_of ledger n (length ledger))
found (projected ledger n start errors) = numbers (λ projection. (projection.full + projection.sampled) ∷ []) (project_of ledger n start (map pos errors))
found (over_all_starts ledger n errors) =
    numbers (λ figures. sum_below figures.interval (λ start. full_in false (projected_for ledger n (map pos errors) start) + sampled_in false (projected_for ledger n (map pos errors) start)) ∷ (figures.interval * sum errors) ∷ [])
    (split_of ledger n (length ledger))
found (limits level ledger n start errors te) =
    numbers (λ judgement. (judgement.projection.full + judgement.projection.sampled) ∷ judgement.precision ∷ judgement.upper_limit ∷ []) (judge_of level ledger n start (map pos errors) te)
found (verdict_on level ledger n start errors te) = after (λ judgement. accepted (this judgement.verdict)) (judge_of level ledger n start (map pos errors) te)

abbrev grants : List ℕ
grants = 500 ∷ 120 ∷ 0 ∷ 80 ∷ 300 ∷ []

abbrev single : List ℕ
single = 10 ∷ []

abbrev claims : List ℕ
claims = 30 ∷ 30 ∷ 40 ∷ 20 ∷ []

abbrev errors : List ℕ
errors = 7 ∷ 0 ∷ 10 ∷ 5 ∷ []

abbrev is : Question → List ℕ → Case
is question answer = record { asked = question; says = accepted (these answer) }

abbrev judged : Question → Verdict → Case
judged question verdict = record { asked = question; says = accepted (this verdict) }

abbrev earns : Question → ℕ → ℕ → Case
earns question number place = record { asked = question; says = refused number place }

-- the cases marked *, in the order of the sheet; at the end a limit equal to TE, and one cent under it, as document 02 amends step 7
unfoldable pub practice : List Case
practice =
    is (draws 95 1000000 20000 0) (150 ∷ [])
    ∷ is (draws 90 1000000 20000 0) (116 ∷ [])
    ∷ is (draws 95 1000000 20000 4000) (221 ∷ [])
    ∷ is (draws 95 1000000 20000 12499) (1875000 ∷ [])
    ∷ earns (draws 95 1000000 20000 12500) 7 0
    ∷ is (rounds_of grants 4) (250 ∷ 100 ∷ 80 ∷ [])
    ∷ is (full_lines_of grants 4) (0 ∷ 1 ∷ 4 ∷ [])
    ∷ is (draws_left_of grants 4) (1 ∷ [])
    ∷ is (starts_that_draw grants 4 3) (80 ∷ 80 ∷ [])
    ∷ is (full_lines_of single 2) (0 ∷ [])
    ∷ is (interval_of single 2) (0 ∷ [])
    ∷ is (limits 95 single 2 0 (0 ∷ []) 10) (0 ∷ 0 ∷ 0 ∷ [])
    ∷ is (interval_of claims 3) (40 ∷ [])
    ∷ is (drawn_lines claims 3 0) (0 ∷ 1 ∷ 2 ∷ [])
    ∷ is (drawn_lines claims 3 25) (0 ∷ 2 ∷ 3 ∷ [])
    ∷ is (drawn_lines claims 3 30) (1 ∷ 2 ∷ 3 ∷ [])
    ∷ earns (drawn_lines claims 3 40) 11 0
    ∷ is (over_all_starts claims 3 errors) (900 ∷ 880 ∷ [])
    ∷ earns (projected claims 3 0 errors) 15 3
    ∷ is (limits 90 claims 3 25 errors 100) (30 ∷ 107 ∷ 137 ∷ [])
    ∷ is (limits 50 claims 3 25 errors 100) (30 ∷ 28 ∷ 58 ∷ [])
    ∷ judged (verdict_on 50 claims 3 25 errors 58) Inconclusive
    ∷ judged (verdict_on 50 claims 3 25 errors 59) Below
    ∷ []

-- the cases of a list, one by one, are found as the sheet says them
abbrev pub AllFound : List Case → Type 0
AllFound cases = map (λ (case : Case). found case.asked) cases ≡ map (λ (case : Case). case.says) cases
