-- `sheet::print_input` meets its contract: the file is what follows the byte, or the whole input. Assumes nothing.
use Rattle.sheet.proofs.Inputs.{byte_there, board_printed, whole_printed}
use Rattle.sheet.proofs.print_input.Goals as goal

pub slice_bounds-print_file-count : goal.slice_bounds-print_file-count
slice_bounds-print_file-count c = search byte_there

pub returns-then-by_board : goal.returns-then-by_board
returns-then-by_board c =
    let text = board_printed _ c.by_board.ensures c.if-by_board.true (c.print_file.ensures.wrote, c.print_file.ensures.file_len_bound) in
    record { wrote = text.0; input_len_bound = text.1 }

pub returns-else-by_board : goal.returns-else-by_board
returns-else-by_board c =
    let text = whole_printed _ c.by_board.ensures c.if-by_board.false (c.print_file-else-by_board.ensures.wrote, c.print_file-else-by_board.ensures.file_len_bound) in
    record { wrote = text.0; input_len_bound = text.1 }
