-- `lines::project_lines` meets its contract: the refusal of the figures, that of a line, or the projection with every line written. Assumes nothing.
use Rattle.std.proofs.lemmas.Result.{err_from_is_err_and}
use Rattle.lines.proofs.Answer.{lines_not_started, lines_ready, lines_refused, lines_writable, lines_projected}
use Rattle.lines.proofs.project_lines.Goals as goal

pub returns-in_err-figures : goal.returns-in_err-figures
returns-in_err-figures c =
    let p = err_from_is_err_and c.from_residual.result c.from_residual.ensures.1 in
    rw (p.1, p.2) (lines_not_started _ _ _ _ _ _ c.length_beside-beside.ensures _ c.in_err-figures.ensures.answer)

pub invariant_of-entered : goal.invariant_of-entered
invariant_of-entered c =
    record { ready = lines_ready _ _ _ _ c.args.amounts.now _ _ c.length_beside-beside.ensures c.in_ok-figures.ensures.answer }

pub returns-in_err-sums : goal.returns-in_err-sums
returns-in_err-sums c =
    let p = err_from_is_err_and c.from_residual-in_err-sums.result c.from_residual-in_err-sums.ensures.1 in
    rw (p.1, p.2) (lines_refused _ _ _ _ _ _ _ c.length_beside-beside.ensures c.in_ok-figures.ensures.answer _ c.in_err-sums.ensures.answer)

pub write_amounts-requires : goal.write_amounts-requires
write_amounts-requires c = lines_writable _ _ _ _ _ _ _ c.length_beside-beside.ensures c.in_ok-figures.ensures.answer _ c.in_ok-sums.ensures.answer

pub returns : goal.returns
returns c =
    lines_projected _ _ _ _ _ _ _ c.length_beside-beside.ensures c.in_ok-figures.ensures.answer _ c.in_ok-sums.ensures.answer c.write_amounts.ensures
