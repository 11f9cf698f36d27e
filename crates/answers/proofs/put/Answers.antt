-- `answers::put` meets its contract: the refusal where its number is above 0, and else the figures with what follows them. Assumes nothing.
use native.Mathlib.Omega.{arith}
use borrow.Author.Rules.{rules}
use Rattle.pen.proofs.Writing.{◌⨾◌, as_text}
use Rattle.answers.proofs.Texts.{refused_text, figures_text_lem}
use Rattle.answers.proofs.put.Goals as goal

pub returns-then-answer-gt0 : goal.returns-then-answer-gt0
returns-then-answer-gt0 c = as_text (refused_text _ _ _ _ _ (omega arith)) (search (rules, ◌⨾◌))

pub returns : goal.returns
returns c = as_text (figures_text_lem _ _ _ _ _ (omega arith)) (search (rules, ◌⨾◌))
