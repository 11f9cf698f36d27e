-- An answer as text. Definitions: nothing is assumed.
use Rattle.std.specs.Prelude.{ℕ, List, [], ◌∷◌, ◌++◌, ltb, eqb, take}
use Rattle.terms.specs.Numbers.{pick}
use Rattle.pen.specs.Letters.{letters}
use Rattle.pen.specs.Text.{signed_text, fields}
use Rattle.answers.specs.declared.Rest.{Rest}
use Rattle.answers.specs.declared.Rest.TheVariants.{Nothing, Net, Judged}

-- the first figures, each after a space
unfoldable pub figures_text : ℕ → List ℕ → List ℕ
figures_text count figures = fields (take count figures)

-- the word of a verdict's number: 1 below, 2 inconclusive, 3 above
unfoldable pub verdict_text : ℕ → List ℕ
verdict_text verdict = pick (eqb verdict 1) (letters " below") (pick (eqb verdict 2) (letters " inconclusive") (pick (eqb verdict 3) (letters " above") []))

-- what follows the first figures: the net with its sign; and of a judgement the precision, the upper limit and the verdict
unfoldable pub rest_text : Rest → List ℕ
rest_text Nothing = []
rest_text (Net net) = 32 ∷ signed_text net
rest_text (Judged net precision limit verdict) = (32 ∷ signed_text net) ++ fields (precision ∷ limit ∷ []) ++ verdict_text verdict

-- the figures with what follows them; where the refusal's number is not 0, the refusal
unfoldable pub answer_text : ℕ → ℕ → ℕ → List ℕ → Rest → List ℕ
answer_text refusal place count figures rest =
    pick (ltb 0 refusal) (letters " refused" ++ fields (refusal ∷ place ∷ [])) (figures_text count figures ++ rest_text rest)
