-- The lines' refusal, or the judgement of their amounts. Assumes nothing.
use Rattle.std.proofs.Common.{rules}
use Rattle.std.proofs.lemmas.Result.{err_from_is_err_and}
use Rattle.boardjudge.proofs.Judging.{to_add, board_refused, walkable, board_concludable, board_judged}
use Rattle.boardjudge.proofs.judge_lines.Goals as goal

pub add_up-requires : goal.add_up-requires
add_up-requires c = to_add c.requires

pub collect-requires : goal.collect-requires
collect-requires c = walkable c.args.level _ _ _ c.args.te _ _ c.in_ok-walked.ensures c.requires

pub judge_amounts-requires : goal.judge_amounts-requires
judge_amounts-requires c = board_concludable c.args.level _ _ _ c.args.te _ _ c.in_ok-walked.ensures c.requires _ _ (search rules) c.collect.ensures _ c.as_projection.ensures

pub returns-in_err-walked : goal.returns-in_err-walked
returns-in_err-walked c =
    let p = err_from_is_err_and c.from_residual.result c.from_residual.ensures.1 in
    rw (p.1, p.2) (board_refused c.args.level _ _ _ c.args.te _ _ c.in_err-walked.ensures)

pub returns : goal.returns
returns c = board_judged _ _ _ _ _ _ _ c.in_ok-walked.ensures c.requires _ _ (search rules) c.collect.ensures _ c.as_projection.ensures _ c.judge_amounts.ensures
