-- `notation::fill` meets its contract. The invariant: the buffers hold the content of the lines before `at`. The measure is what is left of the
-- length. Assumes nothing.
use borrow.Author.Rules.{rules}
use Rattle.notation.proofs.Passing.{less}
use Rattle.notation.proofs.Filling.{begins, words_long, values_long, errors_long, words_same, values_same, errors_same, stopped_filling, line_place, fills, end_place, filled}
use Rattle.notation.proofs.fill.Goals as goal

pub loop-at-init : goal.loop-at-init
loop-at-init c = search (rules, begins)

pub shape_of-words-in-Err : goal.shape_of-words-in-Err
shape_of-words-in-Err c = search (rules, words_long)

pub shape_of-values-in-Err : goal.shape_of-values-in-Err
shape_of-values-in-Err c = search (rules, values_long)

pub shape_of-errors-in-Err : goal.shape_of-errors-in-Err
shape_of-errors-in-Err c = search (rules, errors_long)

pub returns-in-Err : goal.returns-in-Err
returns-in-Err c = search (rules, stopped_filling)

pub keep-requires : goal.keep-requires
keep-requires c = search (rules, line_place)

pub loop-at-smaller : goal.loop-at-smaller
loop-at-smaller c = search (rules, less)

pub loop-at-preserved : goal.loop-at-preserved
loop-at-preserved c = search (rules, fills)

pub put_record-requires : goal.put_record-requires
put_record-requires c = search (rules, end_place)

pub shape_of-words : goal.shape_of-words
shape_of-words c = search (rules, words_same)

pub shape_of-values : goal.shape_of-values
shape_of-values c = search (rules, values_same)

pub shape_of-errors : goal.shape_of-errors
shape_of-errors c = search (rules, errors_same)

pub returns : goal.returns
returns c = search (rules, filled)
