-- `sheet::print_content` meets its contract: the line of the refusal, or the sheet. Assumes nothing.
use Rattle.sheet.proofs.Paging.{content_refused, content_answered, content_shown}
use Rattle.sheet.proofs.print_content.Goals as goal

pub answers_text-requires : goal.answers_text-requires
answers_text-requires c = content_shown _ _ _ _ c.in-Ok.is c.steps.ensures

pub returns-in-Err : goal.returns-in-Err
returns-in-Err c =
    let text = content_refused _ _ _ _ c.in-Err.is c.steps.ensures (c.refused_line.ensures.wrote, c.refused_line.ensures.why_len_bound) in
    record { wrote = text.0; errors_len_bound = text.1 }

pub returns-in-Ok : goal.returns-in-Ok
returns-in-Ok c =
    let text = content_answered _ _ _ _ c.in-Ok.is c.steps.ensures (c.answers_text.ensures.wrote, c.answers_text.ensures.answers_len_bound) in
    record { wrote = text.0; errors_len_bound = text.1 }
