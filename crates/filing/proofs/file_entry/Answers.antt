-- `filing::file_entry` meets its contract: a file that breaks a rule was refused, and the content of any other is judged. Assumes nothing.
use Rattle.workfile.proofs.Held.{empty_rooms, values_long, errors_long, words_fit, values_fit, errors_fit}
use Rattle.filing.proofs.Rows.{file_refused, at_read, file_read}
use Rattle.filing.proofs.file_entry.Goals as goal

pub slice_bounds-words-end : goal.slice_bounds-words-end
slice_bounds-words-end c = words_fit (at_read empty_rooms c.read.ensures c.in-Ok.is)

pub slice_bounds-values-end : goal.slice_bounds-values-end
slice_bounds-values-end c = values_fit (at_read empty_rooms c.read.ensures c.in-Ok.is)

pub slice_bounds-content_entry-end : goal.slice_bounds-content_entry-end
slice_bounds-content_entry-end c = values_long (at_read empty_rooms c.read.ensures c.in-Ok.is)

pub slice_bounds-errors-end : goal.slice_bounds-errors-end
slice_bounds-errors-end c = errors_fit (at_read empty_rooms c.read.ensures c.in-Ok.is)

pub slice_bounds-content_entry-end-in-Ok : goal.slice_bounds-content_entry-end-in-Ok
slice_bounds-content_entry-end-in-Ok c = errors_long (at_read empty_rooms c.read.ensures c.in-Ok.is)

pub returns-in-Err : goal.returns-in-Err
returns-in-Err c = search (file_refused, empty_rooms)

pub returns-in-Ok : goal.returns-in-Ok
returns-in-Ok c = file_read (at_read empty_rooms c.read.ensures c.in-Ok.is) c.content_entry.ensures
