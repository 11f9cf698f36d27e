-- `sheet::print_file` meets its contract: the line of refusal 17, or the text of the content that was read. Assumes nothing.
use native.Mathlib.Omega.{arith}
use Rattle.workfile.proofs.Held.{empty_rooms, values_long, errors_long, words_fit, values_fit, errors_fit}
use Rattle.sheet.proofs.Reading.{file_refused, at_read, file_read, text_room}
use Rattle.sheet.proofs.Paging.{as_bounded}
use Rattle.sheet.proofs.print_file.Goals as goal

pub slice_bounds-words-end : goal.slice_bounds-words-end
slice_bounds-words-end c = words_fit (at_read empty_rooms c.read.ensures c.in-Ok.is)

pub slice_bounds-values-end : goal.slice_bounds-values-end
slice_bounds-values-end c = values_fit (at_read empty_rooms c.read.ensures c.in-Ok.is)

pub slice_bounds-print_content-end : goal.slice_bounds-print_content-end
slice_bounds-print_content-end c = values_long (at_read empty_rooms c.read.ensures c.in-Ok.is)

pub slice_bounds-errors-end : goal.slice_bounds-errors-end
slice_bounds-errors-end c = errors_fit (at_read empty_rooms c.read.ensures c.in-Ok.is)

pub slice_bounds-print_content-end-in-Ok : goal.slice_bounds-print_content-end-in-Ok
slice_bounds-print_content-end-in-Ok c = errors_long (at_read empty_rooms c.read.ensures c.in-Ok.is)

pub returns-in-Err : goal.returns-in-Err
returns-in-Err c =
    let text = as_bounded (file_refused empty_rooms c.read.ensures _ c.in-Err.is) (omega arith) (c.refused_line.ensures.wrote, c.refused_line.ensures.why_len_bound) in
    record { wrote = text.0; file_len_bound = text.1 }

pub returns-in-Ok : goal.returns-in-Ok
returns-in-Ok c = let at = at_read empty_rooms c.read.ensures c.in-Ok.is in
    let text = as_bounded (file_read at) (text_room at) (c.print_content.ensures.wrote, c.print_content.ensures.errors_len_bound) in
    record { wrote = text.0; file_len_bound = text.1 }
