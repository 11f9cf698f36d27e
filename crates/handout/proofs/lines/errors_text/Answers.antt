-- The sums where a line has an error, and else nothing. Assumes nothing.
use Rattle.handout.proofs.Composing.{errors_some, errors_none}
use Rattle.handout.proofs.lines.errors_text.Goals as goal

pub returns-then-any_error : goal.returns-then-any_error
returns-then-any_error c =
    let summed = c.sums_lines-summed.ensures in
    let all = c.all_line.ensures in
    let both = errors_some c.args.strata _ c.args.sums c.any_error.ensures c.if-any_error.true (summed.wrote, summed.rows_len_bound) (all.wrote, all.sums_len_bound) in
    record { wrote = both.0; sums_len_bound = both.1 }

pub returns : goal.returns
returns c =
    let both = errors_none c.args.strata _ c.args.sums c.any_error.ensures c.if-any_error.false in
    record { wrote = both.0; sums_len_bound = both.1 }
